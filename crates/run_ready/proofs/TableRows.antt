-- The code's test of one row, with what it needs of the state, is the definition's of the state and the table. Assumes nothing.
use mathlib.Core.Path.{◌≡◌, ap, ap₂, ◌∙◌}
use mathlib.Core.Bool.{Bool, true, false, not, ◌&&◌, ◌||◌}
use mathlib.Core.List.{List}
use Prim.Native.Nat.{ℕ, ◌+◌, ◌-◌, ◌*◌, ◌≤◌, ◌<◌}
use native.Mathlib.Nat.{add-sub_cancel_left}
use lib.Dec.{eqb, leb}
use lib.ListN.{length, get_or, take, drop}
use lib.Seq.{get_or-take, get_or-drop}
use Rattle.definitions.specs.Basics.{test_bit}
use Rattle.definitions.specs.Plan.{undecided, row_part}
use Rattle.definitions.specs.Dispatcher.{entry, names, due, ready}
use Rattle.definitions.specs.declared.State.{State}
use Rattle.laws.proofs.Searches.{any_below_same, all_below_same}
use Rattle.run_ready.specs.Rows.{due_in, names_in, row_ready}
use Rattle.run_ready.proofs.RowLaws.{row_length}

module _ (st : State) (table : List ℕ) where
  -- Entry a of row v is the table's at v × n + a; so the same steps are named, and due.
  row_entry : (v a : ℕ) → a < st.n → get_or (row_part table st.n v) a 0 ≡ entry st table v a
  unfolding row_part entry
  row_entry v a h = get_or-take st.n (drop (v * st.n) table) a 0 h ∙ get_or-drop (v * st.n) table a 0

  row_names : (v a : ℕ) → a < st.n → names_in (row_part table st.n v) a ≡ names st table v a
  unfolding names_in names
  row_names v a h = ap (λ (x : ℕ). not (eqb x undecided)) (row_entry v a h)

  row_dues : (v a : ℕ) → a < st.n → due_in st.finished st.finish st.tick a (get_or (row_part table st.n v) a 0) ≡ due st table v a
  unfolding due_in due
  row_dues v a h = ap (λ (x : ℕ). test_bit st.finished a && leb (get_or st.finish a 0 + x) st.tick) (row_entry v a h)

  -- A step that has started is not ready; one that has not is ready by its row, which is the table's entry by entry.
  pub ready_started : (v : ℕ) → test_bit st.started v ≡ true → ready st table v ≡ false
  unfolding ready
  ready_started v h = rw h

  ready_row : (v : ℕ) → test_bit st.started v ≡ false → row_ready st.finished st.finish st.tick (row_part table st.n v) st.n ≡ ready st table v
  unfolding row_ready ready
  ready_row v h =
      rw h (ap₂ (λ (x y : Bool). x && y)
      (any_below_same _ _ st.n (row_names v))
      (all_below_same _ _ st.n (λ a h. ap₂ (λ (x y : Bool). not x || y) (row_names v a h) (row_dues v a h))))

  -- The part of the table that the code lends is the row.
  abbrev lent_row : ℕ → List ℕ
  lent_row v = take (v * st.n + st.n - v * st.n) (drop (v * st.n) table)

  pub ready_part : (v : ℕ) → test_bit st.started v ≡ false → v < st.n → st.n * st.n ≤ length table → row_ready st.finished st.finish st.tick (lent_row v) (length (lent_row v)) ≡ ready st table v
  unfolding row_part
  ready_part v h b k =
      rw (add-sub_cancel_left (v * st.n) st.n) (ap (row_ready st.finished st.finish st.tick (row_part table st.n v)) (row_length table st.n v b k) ∙ ready_row v h)
