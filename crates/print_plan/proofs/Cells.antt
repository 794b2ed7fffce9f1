-- The lines by their words and numbers, those that stand or are left out, and where a number of the table lies.
use mathlib.Core.Path.{◌≡◌, refl, sym, ◌∙◌}
use mathlib.Core.Bool.{true, false}
use mathlib.Core.List.{List, [], ◌∷◌}
use Prim.Native.Nat.{ℕ, ◌+◌, ◌*◌, ◌<◌}
use lib.ListN.{get_or}
use lib.Arith.{digits_lt}
use borrow.Author.Tests.{eq-eqb, ne_eqb}
use Rattle.laws.proofs.Bools.{cond_true, cond_false}
use Rattle.definitions.specs.Basics.{test_bit}
use Rattle.definitions.specs.Plan.{undecided}
use Rattle.definitions.specs.Output.{word_wait, word_start, wait_text, start_text}
use Rattle.data_buffers.specs.Texts.{texts}
use Rattle.print_line.specs.Texts.{line}
use Rattle.print_plan.specs.Texts.{wait_line, start_line, wait_cell, cell_at, start_cell}

-- Each line is that of its word and its numbers.
wait_as_line : (a i : ℕ) → line word_wait (a ∷ i ∷ []) ≡ wait_line a i
unfolding line texts wait_text
wait_as_line a i = refl

start_as_line : (v a ticks : ℕ) → line word_start (v ∷ a ∷ ticks ∷ []) ≡ start_line v a ticks
unfolding line texts start_text
start_as_line v a ticks = refl

module _ (maps : List ℕ) (a i : ℕ) where
  pub wait_stands : true ≡ test_bit (get_or maps i 0) a → line word_wait (a ∷ i ∷ []) ≡ wait_cell maps a i
  unfolding wait_cell
  wait_stands h = wait_as_line a i ∙ sym (cond_true (wait_line a i) [] (sym h))

  pub wait_absent : false ≡ test_bit (get_or maps i 0) a → [] ≡ wait_cell maps a i
  unfolding wait_cell
  wait_absent h = sym (cond_false (wait_line a i) [] (sym h))

module _ (n : ℕ) (table : List ℕ) (v a : ℕ) where
  pub start_stands : (cell_at n table v a ≡ undecided → ⊥) → line word_start (v ∷ a ∷ cell_at n table v a ∷ []) ≡ start_cell n table v a
  unfolding start_cell
  start_stands h = start_as_line v a (cell_at n table v a) ∙ sym (cond_false [] (start_line v a (cell_at n table v a)) (ne_eqb (cell_at n table v a) undecided h))

  pub start_absent : cell_at n table v a ≡ undecided → [] ≡ start_cell n table v a
  unfolding start_cell
  start_absent h = sym (cond_true [] (start_line v a (cell_at n table v a)) (eq-eqb (cell_at n table v a) undecided h))

-- Number v × n + a lies in a table of n by n.
pub cell_below : (n v a : ℕ) → v < n → a < n → v * n + a < n * n
cell_below n v a b c = digits_lt b c
