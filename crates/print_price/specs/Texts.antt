-- What the functions of this crate print, in terms of what is lent to them.
use Rattle.std.specs.Prelude.{cond, List, [], ◌++◌, ℕ, ◌+◌, ◌*◌, ◌<◌, ◌≤◌, length, get_or}
use Rattle.definitions.specs.Basics.{test_bit}
use Rattle.definitions.specs.Limits.{most_steps}
use Rattle.definitions.specs.Output.{field, newline}
use Rattle.definitions.specs.Price.{Price, word_registers, word_comparisons, word_total}
use Rattle.data_buffers.specs.Texts.{texts}

-- A price from what is lent: a number of registers and one of comparisons for each step, and the two sums.
abbrev pub price : List ℕ → List ℕ → ℕ → ℕ → Price
price registers comparisons register_total comparison_total = record { registers = registers; comparisons = comparisons; register_total = register_total; comparison_total = comparison_total }

-- The registers line of a, and the comparisons line of v.
abbrev pub registers_line : List ℕ → ℕ → List ℕ
registers_line registers a = word_registers ++ field a ++ field (get_or registers a 0) ++ newline

unfoldable pub comparisons_line : List ℕ → ℕ → List ℕ
comparisons_line comparisons v = word_comparisons ++ field v ++ field (get_or comparisons v 0) ++ newline

-- The registers lines of the steps below n that a map holds, the comparisons lines of all, and the line of the two sums.
unfoldable pub registers_cell : ℕ → List ℕ → ℕ → List ℕ
registers_cell unbounded registers a = cond (test_bit unbounded a) (registers_line registers a) []

abbrev pub registers_part : ℕ → ℕ → List ℕ → List ℕ
registers_part unbounded n registers = texts (registers_cell unbounded registers) n

abbrev pub comparisons_part : ℕ → List ℕ → List ℕ
comparisons_part n comparisons = texts (comparisons_line comparisons) n

unfoldable pub total_line : ℕ → ℕ → List ℕ
total_line registers comparisons = word_total ++ field registers ++ field comparisons ++ newline

-- What a part of the text asks to be put at a place of the buffer: a step that there may be, or so many, and room for the part.
pub record LineFits (a : ℕ) (text : List ℕ) (at : ℕ) (out : List ℕ) : Type 0 where
  pub step : a < most_steps
  pub room : at + length text ≤ length out

pub record LinesFit (n : ℕ) (text : List ℕ) (at : ℕ) (out : List ℕ) : Type 0 where
  pub few : n ≤ most_steps
  pub room : at + length text ≤ length out

-- Room for every price: for each step a registers line of at most 24 bytes and a comparisons line of at most 26, and a total line of at most 28. Numbers have at most ten digits, step numbers at most two.
abbrev pub price_room : ℕ
price_room = most_steps * 24 + most_steps * 26 + 28
