-- How long the text can be: a price of up to 64 steps fits its room, whatever numbers it holds.
use mathlib.Core.List.{List, ◌++◌}
use Prim.Native.Nat.{ℕ, ◌+◌, ◌≤◌, ◌<◌}
use native.Mathlib.Omega.{arith}
use lib.ListN.{length, get_or, length-append}
use Rattle.definitions.specs.Basics.{test_bit}
use Rattle.definitions.specs.Output.{field, newline}
use Rattle.definitions.specs.Price.{word_registers, word_comparisons, word_total}
use Rattle.data_buffers.proofs.Listing.{texts_limit, cond_limit}
use Rattle.print_line.proofs.Digits.{field_length, field_short}
use Rattle.print_price.specs.Texts.{registers_line, comparisons_line, registers_cell, registers_part, comparisons_part, total_line, price_room}

-- A line of a word, a step's number and another number.
step_line_limit : (word : List ℕ) (a x : ℕ) → a < 100 → length (word ++ field a ++ field x ++ newline) ≤ length word + 15
step_line_limit word a x b =
    omega (arith, length-append (word ++ field a ++ field x) newline, length-append (word ++ field a) (field x), length-append word (field a), field_short a b, field_length x)

total_line_limit : (registers comparisons : ℕ) → length (total_line registers comparisons) ≤ 28
unfolding total_line
total_line_limit registers comparisons =
    omega (arith, length-append (word_total ++ field registers ++ field comparisons) newline, length-append (word_total ++ field registers) (field comparisons), length-append word_total (field registers), field_length registers, field_length comparisons)

module _ (n : ℕ) (small : n ≤ 64) where
  pub registers_limit : (unbounded : ℕ) (registers : List ℕ) → length (registers_part unbounded n registers) ≤ 1536
  unfolding registers_cell
  registers_limit unbounded registers =
      omega (arith, texts_limit (registers_cell unbounded registers) 24 n (λ a c. cond_limit (test_bit unbounded a) (registers_line registers a) 24 (step_line_limit word_registers a (get_or registers a 0) (omega arith))))

  comparisons_limit : (comparisons : List ℕ) → length (comparisons_part n comparisons) ≤ 1664
  unfolding comparisons_line
  comparisons_limit comparisons = omega (arith, texts_limit (comparisons_line comparisons) 26 n (λ v c. step_line_limit word_comparisons v (get_or comparisons v 0) (omega arith)))

  -- The parts of a price's text, one after the other.
  module _ (unbounded : ℕ) (registers comparisons : List ℕ) where
    pub comparisons_room : length (registers_part unbounded n registers ++ comparisons_part n comparisons) ≤ 3200
    comparisons_room = omega (arith, length-append (registers_part unbounded n registers) (comparisons_part n comparisons), registers_limit unbounded registers, comparisons_limit comparisons)

    pub total_room : (x y : ℕ) → length (registers_part unbounded n registers ++ comparisons_part n comparisons ++ total_line x y) ≤ price_room
    total_room x y = omega (arith, length-append (registers_part unbounded n registers ++ comparisons_part n comparisons) (total_line x y), comparisons_room, total_line_limit x y)
