-- The lines by their words and numbers, those that stand or are left out, and the text that they make together.
use mathlib.Core.Path.{◌≡◌, refl, sym, ap, ap₂, ◌∙◌}
use mathlib.Core.Bool.{true, false}
use mathlib.Core.List.{List, [], ◌∷◌, ◌++◌, append_assoc}
use Prim.Native.Nat.{ℕ}
use lib.ListN.{get_or}
use Rattle.laws.proofs.Bools.{cond_true, cond_false}
use Rattle.definitions.specs.Basics.{test_bit}
use Rattle.definitions.specs.Output.{field, newline}
use Rattle.definitions.specs.Price.{Price, price_text, registers_text, comparisons_text, word_registers, word_comparisons, word_total}
use Rattle.data_buffers.specs.Texts.{texts}
use Rattle.data_buffers.proofs.Listing.{texts_all, texts_select}
use Rattle.print_line.specs.Texts.{line}
use Rattle.print_price.specs.Texts.{price, registers_line, comparisons_line, registers_cell, registers_part, comparisons_part, total_line}

-- Each line is that of its word and its numbers.
registers_as_line : (registers : List ℕ) (a : ℕ) → line word_registers (a ∷ get_or registers a 0 ∷ []) ≡ registers_line registers a
unfolding line texts
registers_as_line registers a = refl

pub comparisons_as_line : (comparisons : List ℕ) (v : ℕ) → line word_comparisons (v ∷ get_or comparisons v 0 ∷ []) ≡ comparisons_line comparisons v
unfolding line texts comparisons_line
comparisons_as_line comparisons v = refl

pub total_as_line : (registers comparisons : ℕ) → line word_total (registers ∷ comparisons ∷ []) ≡ total_line registers comparisons
unfolding line texts total_line
total_as_line registers comparisons = refl

module _ (unbounded : ℕ) (registers : List ℕ) (a : ℕ) where
  pub registers_stand : true ≡ test_bit unbounded a → line word_registers (a ∷ get_or registers a 0 ∷ []) ≡ registers_cell unbounded registers a
  unfolding registers_cell
  registers_stand h = registers_as_line registers a ∙ sym (cond_true (registers_line registers a) [] (sym h))

  pub registers_absent : false ≡ test_bit unbounded a → [] ≡ registers_cell unbounded registers a
  unfolding registers_cell
  registers_absent h = sym (cond_false (registers_line registers a) [] (sym h))

-- The parts make the definition's text: its lines are listed by `flat_map`, and its last line is joined to what stands before it.
module _ (unbounded n : ℕ) (registers comparisons : List ℕ) (register_total comparison_total : ℕ) where
  abbrev p : Price
  p = price registers comparisons register_total comparison_total

  total_joined : (before : List ℕ) → before ++ total_line register_total comparison_total ≡ before ++ word_total ++ field register_total ++ field comparison_total ++ newline
  unfolding total_line
  total_joined before =
      sym (append_assoc before (word_total ++ field register_total ++ field comparison_total) newline)
      ∙ ap (λ (l : List ℕ). l ++ newline) (sym (append_assoc before (word_total ++ field register_total) (field comparison_total)))
      ∙ ap (λ (l : List ℕ). l ++ field comparison_total ++ newline) (sym (append_assoc before word_total (field register_total)))

  pub price_listed : registers_part unbounded n registers ++ comparisons_part n comparisons ++ total_line register_total comparison_total ≡ price_text (test_bit unbounded) n p
  unfolding price_text registers_text comparisons_text registers_cell comparisons_line
  price_listed =
      total_joined (registers_part unbounded n registers ++ comparisons_part n comparisons)
      ∙ ap₂
      (λ (x y : List ℕ). x ++ y ++ word_total ++ field register_total ++ field comparison_total ++ newline)
      (texts_select (test_bit unbounded) (registers_text p) n)
      (texts_all (comparisons_text p) n)
