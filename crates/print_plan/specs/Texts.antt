-- What the functions of this crate print, in terms of what is lent to them.
use Rattle.std.specs.Prelude.{cond, List, [], ◌++◌, ℕ, ◌+◌, ◌*◌, ◌<◌, ◌≤◌, eqb, length, get_or}
use Rattle.definitions.specs.Basics.{test_bit}
use Rattle.definitions.specs.Limits.{longest_table, most_steps}
use Rattle.definitions.specs.Plan.{undecided}
use Rattle.definitions.specs.Output.{word_verdict, word_waits, wait_text, start_text}
use Rattle.data_buffers.specs.Texts.{texts}
use Rattle.print_line.specs.Texts.{heading}

-- A wait line and a start line.
abbrev pub wait_line : ℕ → ℕ → List ℕ
wait_line a i = wait_text (record { anchor = a; target = i })

abbrev pub start_line : ℕ → ℕ → ℕ → List ℕ
start_line v a ticks = start_text (record { step = v; decider = a; ticks = ticks })

-- The wait lines of the maps: bit a of map i stands where i waits for a. By a, then by i.
unfoldable pub wait_cell : List ℕ → ℕ → ℕ → List ℕ
wait_cell maps a i = cond (test_bit (get_or maps i 0) a) (wait_line a i) []

abbrev pub maps_row : ℕ → List ℕ → ℕ → List ℕ
maps_row n maps a = texts (wait_cell maps a) n

abbrev pub maps_text : ℕ → List ℕ → List ℕ
maps_text n maps = texts (maps_row n maps) n

-- The start lines of a table of n by n numbers: none where a does not decide v.
abbrev pub cell_at : ℕ → List ℕ → ℕ → ℕ → ℕ
cell_at n table v a = get_or table (v * n + a) 0

unfoldable pub start_cell : ℕ → List ℕ → ℕ → ℕ → List ℕ
start_cell n table v a = cond (eqb (cell_at n table v a) undecided) [] (start_line v a (cell_at n table v a))

abbrev pub table_row : ℕ → List ℕ → ℕ → List ℕ
table_row n table v = texts (start_cell n table v) n

abbrev pub table_text : ℕ → List ℕ → List ℕ
table_text n table = texts (table_row n table) n

-- The whole of an accepted sheet.
unfoldable pub plan_text : ℕ → ℕ → List ℕ → List ℕ → ℕ → List ℕ
plan_text verdict count maps table n = heading word_verdict verdict ++ heading word_waits count ++ maps_text n maps ++ table_text n table

-- What a part of the text asks to be put at a place of the buffer: steps that there are, a table with a row for each, and room for the part.
pub record WaitFits (a i : ℕ) (text : List ℕ) (at : ℕ) (out : List ℕ) : Type 0 where
  pub anchor : a < most_steps
  pub target : i < most_steps
  pub room : at + length text ≤ length out

pub record WaitsFit (n a : ℕ) (text : List ℕ) (at : ℕ) (out : List ℕ) : Type 0 where
  pub few : n ≤ most_steps
  pub anchor : a < most_steps
  pub room : at + length text ≤ length out

pub record StartFits (n v a : ℕ) (table text : List ℕ) (at : ℕ) (out : List ℕ) : Type 0 where
  pub few : n ≤ most_steps
  pub step : v < n
  pub decider : a < n
  pub long : n * n ≤ length table
  pub room : at + length text ≤ length out

pub record StartsFit (n v : ℕ) (table text : List ℕ) (at : ℕ) (out : List ℕ) : Type 0 where
  pub few : n ≤ most_steps
  pub step : v < n
  pub long : n * n ≤ length table
  pub room : at + length text ≤ length out

pub record TableFits (n : ℕ) (table text : List ℕ) (at : ℕ) (out : List ℕ) : Type 0 where
  pub few : n ≤ most_steps
  pub long : n * n ≤ length table
  pub room : at + length text ≤ length out

-- Room for every plan: for each place of the longest table a wait line of at most 11 bytes and a start line of at most 23, and two headings of at most 19 and 17. Numbers have at most ten digits, step numbers at most two.
abbrev pub plan_room : ℕ
plan_room = longest_table * 11 + longest_table * 23 + 19 + 17
