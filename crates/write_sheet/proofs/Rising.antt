-- Records ordered by their cells are in rising order: a pair comes twice where a cell does, and the records by rising cells are those of the definition, since only one order of them rises.
use mathlib.Core.Path.{◌≡◌, sym, ap, subst, ◌∙◌}
use mathlib.Core.Bool.{true, false, not}
use mathlib.Core.Logic.{inl, inr, ◌↔◌}
use mathlib.Core.List.Memᴰ
use mathlib.Core.List.{List, map, map-map, Memᴰ}
use Prim.Native.Nat.{ℕ, ◌≤◌, ◌<◌}
use native.Mathlib.Decide.{dec_lt}
use native.Mathlib.Omega.{arith}
use lib.ListN.{length, get_or, take, length-map, get_or-map}
use lib.Seq.{get_or-take, length-take-le}
use borrow.Author.Tests.{not-false}
use Rattle.definitions.specs.Basics.{select_below}
use Rattle.definitions.specs.Bytes.{endpoints}
use Rattle.definitions.specs.Clashes.{blank_link}
use Rattle.definitions.specs.Limits.{most_records, most_steps}
use Rattle.definitions.specs.Writer.{bad_ends, comes_twice, rising}
use Rattle.definitions.specs.declared.Link.{Link}
use Rattle.laws.proofs.Bools.{same_test}
use Rattle.laws.proofs.Lists.{Place, mem_at, mem_place}
use Rattle.laws.proofs.Tests.{any_none, any_below_has, select_below_has, select_below_only}
use Rattle.demands.specs.Demands.{Rising}
use Rattle.demands.specs.Writing.{PairBefore, PairTwice}
use Rattle.demands.proofs.Orders.{rising_map, select_rising}
use Rattle.demands.proofs.Reading.{endpoints_fit}
use Rattle.demands.proofs.WritingOrder.{rising_mem, mem_rising, rising_same, rising_up, twice_iff}
use Rattle.write_order.specs.Cells.{most_cells, stands, repeats_below, repeats, first_place, in_order, CellsFit}
use Rattle.write_order.proofs.Places.{first_inside, first_here, one_place, order_length, repeats_at, stands_at}
use Rattle.write_bytes.specs.Sheets.{numbered}
use Rattle.write_parts.specs.Parts.{cell_of}

-- The records' cells.
abbrev pub cells_of : List Link → List ℕ
cells_of ls = map cell_of ls

pub cell_at : (ls : List Link) (k : ℕ) → get_or (cells_of ls) k 0 ≡ cell_of (get_or ls k blank_link)
unfolding cell_of
cell_at ls k = get_or-map cell_of ls k blank_link

pair_cell : (l m : Link) → l.from ≡ m.from → l.to ≡ m.to → cell_of l ≡ cell_of m
unfolding cell_of
pair_cell l m e f = omega arith

-- Of records whose ends are steps.
module _ (n : ℕ) (ls : List Link) (few : n ≤ most_steps) (ends : bad_ends n ls ≡ false) where
  steps_at : (k : ℕ) → k < length ls → ((get_or ls k blank_link).from < n) × ((get_or ls k blank_link).to < n)
  unfolding bad_ends
  steps_at k b =
      let l = get_or ls k blank_link in
      let e = endpoints_fit n l.from l.to (not-false (endpoints n l.from l.to) (any_none (λ l. not (endpoints n l.from l.to)) ls ends l (mem_at ls k blank_link b))) in
      (e.0, e.1)

  pub cells_fit : length ls ≤ most_records → CellsFit (cells_of ls)
  unfolding cell_of
  cells_fit short = record {
    few = omega (arith, length-map ls cell_of);
    inside = λ k b. let e = steps_at k (omega (arith, length-map ls cell_of)) in omega (arith, cell_at ls k, e.0, e.1);
  }

  -- One cell is one pair, and a lower cell is a pair that stands before.
  same_ends : (i j : ℕ) → i < length ls → j < length ls → get_or (cells_of ls) i 0 ≡ get_or (cells_of ls) j 0 → ((get_or ls i blank_link).from ≡ (get_or ls j blank_link).from) × ((get_or ls i blank_link).to ≡ (get_or ls j blank_link).to)
  unfolding cell_of
  same_ends i j a b e =
      let p = steps_at i a in
      let q = steps_at j b in
      (omega (arith, cell_at ls i, cell_at ls j, p.1, q.1), omega (arith, cell_at ls i, cell_at ls j, p.1, q.1))

  before_by : (i j : ℕ) → i < length ls → j < length ls → get_or (cells_of ls) i 0 < get_or (cells_of ls) j 0 → PairBefore (get_or ls i blank_link) (get_or ls j blank_link)
  unfolding cell_of
  before_by i j a b h = go (dec_lt (get_or ls i blank_link).from (get_or ls j blank_link).from)
    where
      p : ((get_or ls i blank_link).from < n) × ((get_or ls i blank_link).to < n)
      p = steps_at i a

      q : ((get_or ls j blank_link).from < n) × ((get_or ls j blank_link).to < n)
      q = steps_at j b

      go : Dec ((get_or ls i blank_link).from < (get_or ls j blank_link).from) → PairBefore (get_or ls i blank_link) (get_or ls j blank_link)
      go (yes c) = inl c
      go (no c) = inr (omega (arith, cell_at ls i, cell_at ls j, p.1, q.1), omega (arith, cell_at ls i, cell_at ls j, p.1, q.1))

  -- 6: by the two places.
  pub twice_cells : repeats (cells_of ls) ≡ comes_twice ls
  unfolding repeats_below
  twice_cells = same_test (repeats (cells_of ls)) (comes_twice ls) (λ t. (twice_iff ls).1 (found (any_below_has (λ k. stands (take k (cells_of ls)) (get_or (cells_of ls) k 0)) (length (cells_of ls)) t))) (λ t. back ((twice_iff ls).0 t))
    where
      long : length (cells_of ls) ≡ length ls
      long = length-map ls cell_of

      found : (k : ℕ) × (k < length (cells_of ls)) × (stands (take k (cells_of ls)) (get_or (cells_of ls) k 0) ≡ true) → PairTwice ls
      found w =
          let k = w.0 in
          let first = take k (cells_of ls) in
          let j = first_place first (get_or (cells_of ls) k 0) in
          let size : length first ≡ k = length-take-le k (cells_of ls) (omega (arith, w.1)) in
          let c : j < k = omega (arith, first_inside first (get_or (cells_of ls) k 0) w.2) in
          let here : get_or (cells_of ls) j 0 ≡ get_or (cells_of ls) k 0 = sym (get_or-take k (cells_of ls) j 0 c) ∙ first_here first (get_or (cells_of ls) k 0) w.2 in
          let same = same_ends j k (omega (arith, w.1, long)) (omega (arith, w.1, long)) here in
          record { first = j; second = k; apart = c; inside = omega (arith, w.1, long); same_from = same.0; same_to = same.1 }

      back : PairTwice ls → repeats (cells_of ls) ≡ true
      back w =
          let i = w.first in
          let j = w.second in
          let before = take j (cells_of ls) in
          let size : length before ≡ j = length-take-le j (cells_of ls) (omega (arith, w.inside, long)) in
          let same : get_or before i 0 ≡ get_or (cells_of ls) j 0 = get_or-take j (cells_of ls) i 0 w.apart ∙ cell_at ls i ∙ pair_cell (get_or ls i blank_link) (get_or ls j blank_link) w.same_from w.same_to ∙ sym (cell_at ls j) in
          repeats_at (cells_of ls) j (omega (arith, w.inside, long)) (ap (stands before) (sym same) ∙ stands_at before i (omega (arith, w.apart)))

  -- The order of the records.
  module _ (short : length ls ≤ most_records) (once : comes_twice ls ≡ false) where
    once_cells : repeats (cells_of ls) ≡ false
    once_cells = twice_cells ∙ once

    -- The record of a cell that stands.
    abbrev at_cell : ℕ → Link
    at_cell c = get_or ls (first_place (cells_of ls) c) blank_link

    place_inside : (c : ℕ) → stands (cells_of ls) c ≡ true → first_place (cells_of ls) c < length ls
    place_inside c h = omega (arith, first_inside (cells_of ls) c h, length-map ls cell_of)

    as_numbered : numbered ls (in_order (cells_of ls)) ≡ map at_cell (select_below (stands (cells_of ls)) most_cells)
    unfolding in_order
    as_numbered = map-map (λ k. get_or ls k blank_link) (first_place (cells_of ls)) (select_below (stands (cells_of ls)) most_cells)

    standing : {c : ℕ} → Memᴰ c (select_below (stands (cells_of ls)) most_cells) → stands (cells_of ls) c ≡ true
    standing m = (select_below_only (stands (cells_of ls)) most_cells m).1

    cells_rise : Rising PairBefore (map at_cell (select_below (stands (cells_of ls)) most_cells))
    cells_rise = rising_map PairBefore at_cell (select_below (stands (cells_of ls)) most_cells) up (select_rising (stands (cells_of ls)) most_cells)
      where
        up : (c d : ℕ) → Memᴰ c (select_below (stands (cells_of ls)) most_cells) → Memᴰ d (select_below (stands (cells_of ls)) most_cells) → c < d → PairBefore (at_cell c) (at_cell d)
        up c d m o b =
            let s = standing m in
            let t = standing o in
            before_by (first_place (cells_of ls) c) (first_place (cells_of ls) d) (place_inside c s) (place_inside d t) (omega (arith, first_here (cells_of ls) c s, first_here (cells_of ls) d t))

    same_records : (l : Link) → Memᴰ l (map at_cell (select_below (stands (cells_of ls)) most_cells)) ↔ Memᴰ l ls
    same_records l = (λ m. there (Memᴰ.of_map at_cell (select_below (stands (cells_of ls)) most_cells) m), λ m. back (mem_place ls blank_link m))
      where
        there : (c : ℕ) × Memᴰ c (select_below (stands (cells_of ls)) most_cells) × (at_cell c ≡ l) → Memᴰ l ls
        there w = subst (λ (m : Link). Memᴰ m ls) w.2 (mem_at ls (first_place (cells_of ls) w.0) blank_link (place_inside w.0 (standing w.1)))

        back : Place ls blank_link l → Memᴰ l (map at_cell (select_below (stands (cells_of ls)) most_cells))
        back p =
            let k = p.index in
            let c = get_or (cells_of ls) k 0 in
            let b : k < length (cells_of ls) = omega (arith, p.inside, length-map ls cell_of) in
            let s : stands (cells_of ls) c ≡ true = stands_at (cells_of ls) k b in
            let same : first_place (cells_of ls) c ≡ k = one_place (cells_of ls) once_cells (first_place (cells_of ls) c) k (first_inside (cells_of ls) c s) b (first_here (cells_of ls) c s) in
            subst (λ (m : Link). Memᴰ m (map at_cell (select_below (stands (cells_of ls)) most_cells))) (ap (λ (i : ℕ). get_or ls i blank_link) same ∙ p.here) (Memᴰ.map at_cell (select_below_has (stands (cells_of ls)) most_cells ((cells_fit short).inside k b) s))

    pub order_rising : numbered ls (in_order (cells_of ls)) ≡ rising ls
    order_rising =
        as_numbered
        ∙ rising_same (map at_cell (select_below (stands (cells_of ls)) most_cells)) (rising ls) cells_rise (rising_up ls once) (λ l. ((λ m. mem_rising ls ((same_records l).0 m)), λ m. (same_records l).1 (rising_mem ls m)))

    -- As many numbers as records, each the number of one.
    pub order_long : length (in_order (cells_of ls)) ≡ length ls
    order_long = order_length (cells_of ls) (cells_fit short) once_cells ∙ length-map ls cell_of

    pub order_inside : (k : ℕ) → Memᴰ k (in_order (cells_of ls)) → k < length ls
    unfolding in_order
    order_inside k m =
        let w = Memᴰ.of_map (first_place (cells_of ls)) (select_below (stands (cells_of ls)) most_cells) m in
        omega (arith, place_inside w.0 (standing w.1), w.2)
