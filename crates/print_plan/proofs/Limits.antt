-- How long the texts can be: a plan of up to 64 steps fits its room, whatever numbers it holds.
use mathlib.Core.List.{List, ◌++◌}
use Prim.Native.Nat.{ℕ, ◌≤◌, ◌<◌}
use native.Mathlib.Omega.{arith}
use lib.Dec.{eqb}
use lib.ListN.{length, get_or, length-append}
use Rattle.definitions.specs.Basics.{test_bit}
use Rattle.definitions.specs.Plan.{undecided}
use Rattle.definitions.specs.Output.{field, newline, word_verdict, word_waits, word_wait, word_start, wait_text, start_text}
use Rattle.data_buffers.proofs.Listing.{texts_limit, cond_limit, cond_limit_else}
use Rattle.print_line.specs.Texts.{heading}
use Rattle.print_line.proofs.Fronts.{heading_limit}
use Rattle.print_plan.specs.Texts.{wait_line, start_line, wait_cell, maps_row, maps_text, cell_at, start_cell, table_row, table_text, plan_room}
use Rattle.print_line.proofs.Digits.{field_length, field_short}

wait_line_limit : (a i : ℕ) → a < 100 → i < 100 → length (wait_line a i) ≤ 11
unfolding wait_text
wait_line_limit a i b c =
    omega (arith, length-append (word_wait ++ field a ++ field i) newline, length-append (word_wait ++ field a) (field i), length-append word_wait (field a), field_short a b, field_short i c)

start_line_limit : (v a ticks : ℕ) → v < 100 → a < 100 → length (start_line v a ticks) ≤ 23
unfolding start_text
start_line_limit v a ticks b c =
    omega (arith, length-append (word_start ++ field v ++ field a ++ field ticks) newline, length-append (word_start ++ field v ++ field a) (field ticks), length-append (word_start ++ field v) (field a), length-append word_start (field v), field_short v b, field_short a c, field_length ticks)

module _ (n : ℕ) (small : n ≤ 64) where
  maps_row_limit : (maps : List ℕ) (a : ℕ) → a < n → length (maps_row n maps a) ≤ 704
  unfolding wait_cell
  maps_row_limit maps a b = omega (arith, texts_limit (wait_cell maps a) 11 n (λ i c. cond_limit (test_bit (get_or maps i 0) a) (wait_line a i) 11 (wait_line_limit a i (omega arith) (omega arith))))

  pub maps_text_limit : (maps : List ℕ) → length (maps_text n maps) ≤ 45056
  maps_text_limit maps = omega (arith, texts_limit (maps_row n maps) 704 n (maps_row_limit maps))

  table_row_limit : (table : List ℕ) (v : ℕ) → v < n → length (table_row n table v) ≤ 1472
  unfolding start_cell
  table_row_limit table v b = omega (arith, texts_limit (start_cell n table v) 23 n (λ a c. cond_limit_else (eqb (cell_at n table v a) undecided) (start_line v a (cell_at n table v a)) 23 (start_line_limit v a (cell_at n table v a) (omega arith) (omega arith))))

  pub table_text_limit : (table : List ℕ) → length (table_text n table) ≤ 94208
  table_text_limit table = omega (arith, texts_limit (table_row n table) 1472 n (table_row_limit table))

  -- The parts of a plan's text, one after the other.
  module _ (verdict count : ℕ) (maps table : List ℕ) where
    pub headings_room : length (heading word_verdict verdict ++ heading word_waits count) ≤ 36
    headings_room = omega (arith, length-append (heading word_verdict verdict) (heading word_waits count), heading_limit word_verdict verdict, heading_limit word_waits count)

    pub waits_room : length (heading word_verdict verdict ++ heading word_waits count ++ maps_text n maps) ≤ 45092
    waits_room = omega (arith, length-append (heading word_verdict verdict ++ heading word_waits count) (maps_text n maps), headings_room, maps_text_limit maps)

    pub starts_room : length (heading word_verdict verdict ++ heading word_waits count ++ maps_text n maps ++ table_text n table) ≤ plan_room
    starts_room = omega (arith, length-append (heading word_verdict verdict ++ heading word_waits count ++ maps_text n maps) (table_text n table), waits_room, table_text_limit table)
