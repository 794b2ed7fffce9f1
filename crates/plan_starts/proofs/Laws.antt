-- Start times by turns, read off the working tables: the terms of a start, turns that change nothing, and that on the tables of an edge list they are the definition's. Assumes nothing.
use mathlib.Core.Path.{◌≡◌, refl, sym, ap, ap₂, ◌∙◌}
use mathlib.Core.Bool.{Bool, true, false, not, ◌&&◌}
use mathlib.Core.Logic.{◌⊎◌, inl, inr}
use mathlib.Core.List.{List, ◌++◌}
use Prim.Native.Nat.{ℕ, zero, suc, ◌+◌, ◌-◌, ◌<◌, ◌≤◌, min, max}
use native.Mathlib.Omega.{arith}
use native.Mathlib.Numerals.{add-one}
use lib.Dec.{eqb}
use lib.ListN.{length, get_or, take, drop, replicate, length-take}
use lib.Seq.{get_or-take}
use Rattle.definitions.specs.Anchors.{in_anchor_set}
use Rattle.definitions.specs.Basics.{largest, tabulate, test_bit}
use Rattle.definitions.specs.Links.{Edge}
use Rattle.definitions.specs.Plan.{offset, delays, start_from, start_turns, start_times}
use Rattle.definitions.specs.Rounds.{cell}
use Rattle.laws.proofs.Bools.{bool_cases, cond_true, cond_false}
use Rattle.laws.proofs.Fronts.{laid_at, tabulate_list}
use Rattle.laws.proofs.Members.{largest_member_less, largest_member_none}
use Rattle.laws.proofs.Tests.{largest_same, largest_same_test, tabulate_at, tabulate_same}
use Rattle.theory.proofs.FirstRows.{zeros_at}
use Rattle.theory.proofs.StartTimes.{start_times_length}
use Rattle.plan_deciding.specs.Working.{Holds, HoldsLeasts, member}
use Rattle.plan_deciding.proofs.Laws.{member_anchor, offset_read}
use Rattle.plan_starts.specs.Times.{Started, cut, term, start_at, next_row, row_after}

-- ---- the terms of a start, a member at a time

module _ (d : List (List ℕ)) (leasts list row : List ℕ) (v n : ℕ) where
  -- The largest so far, or a term of the members left.
  abbrev pub latest_of : ℕ → ℕ → ℕ
  latest_of most left = max most (largest (test_bit left) (term d leasts list row v) n)

  pub none_taken : (members : ℕ) → latest_of 0 members ≡ largest (test_bit members) (term d leasts list row v) n
  none_taken members = omega arith

  pub one_taken : (most left next rest x y : ℕ) → x < n → test_bit left x ≡ true → y ≡ term d leasts list row v x → next ≡ max most y
      → ((j : ℕ) → test_bit rest j ≡ (test_bit left j && not (eqb j x))) → latest_of next rest ≡ latest_of most left
  one_taken most left next rest x y b stood y-is next_is rest_is = omega (arith, largest_member_less left rest x stood rest_is (term d leasts list row v) n b)

  -- No member below n is left.
  pub all_taken : (most left : ℕ) → ((k : ℕ) → k < n → test_bit left k ≡ false) → latest_of most left ≡ most
  all_taken most left h = omega (arith, largest_member_none (term d leasts list row v) n left h)

module _ (d : List (List ℕ)) (leasts sets : List ℕ) (n : ℕ) (list row : List ℕ) where
  pub start_at_source : (v : ℕ) → v ≡ 0 → start_at d leasts sets n list row v ≡ 0
  unfolding start_at
  start_at_source v e = rw e refl

  pub start_at_later : (v most : ℕ) → (v ≡ 0 → ⊥) → most ≡ largest (test_bit (get_or sets v 0)) (term d leasts list row v) n → start_at d leasts sets n list row v ≡ min most cut
  unfolding start_at
  start_at_later zero most h e = absurd (h refl)
  start_at_later (suc v) most h e = ap (λ (x : ℕ). min x cut) (sym e)

-- ---- the first numbers of rows

pub front_cells : (n : ℕ) (row : List ℕ) → n ≤ length row → take n row ≡ tabulate (cell row) n
front_cells n row h = sym (tabulate_list (take n row) (cell row) n 0 (simp length-take (omega arith)) (λ i b. sym (get_or-take n row i 0 b)))

cells_same : (n : ℕ) (row other : List ℕ) → take n row ≡ take n other → (a : ℕ) → a < n → cell row a ≡ cell other a
cells_same n row other e a b = sym (get_or-take n row a 0 b) ∙ ap (λ (l : List ℕ). cell l a) e ∙ get_or-take n other a 0 b

-- ---- turns that change nothing

module _ (d : List (List ℕ)) (leasts sets : List ℕ) (n : ℕ) (list : List ℕ) where
  -- A turn reads the first n numbers of a row alone.
  start_at_cells : (row other : List ℕ) → ((a : ℕ) → a < n → cell row a ≡ cell other a) → (v : ℕ) → start_at d leasts sets n list row v ≡ start_at d leasts sets n list other v
  unfolding start_at term
  start_at_cells row other h zero = refl
  start_at_cells row other h (suc v) =
      ap (λ (x : ℕ). min x cut) (largest_same (member sets (suc v)) (term d leasts list row (suc v)) (term d leasts list other (suc v)) n (λ a b m. omega (arith, h a b)))

  next_row_cells : (row other : List ℕ) → ((a : ℕ) → a < n → cell row a ≡ cell other a) → next_row d leasts sets n list row ≡ next_row d leasts sets n list other
  unfolding next_row
  next_row_cells row other h =
      ap (λ (l : List ℕ). l ++ drop n (replicate 64 0)) (tabulate_same (start_at d leasts sets n list row) (start_at d leasts sets n list other) n (λ v b. start_at_cells row other h v))

  -- Two rows with the same first n numbers have the same next row. Induction on the turns that follow.
  settled : (k : ℕ) → ((a : ℕ) → a < n → cell (row_after d leasts sets n list k) a ≡ cell (row_after d leasts sets n list (suc k)) a) → (j : ℕ) → row_after d leasts sets n list (suc k + j) ≡ row_after d leasts sets n list (suc k)
  unfolding row_after
  settled k h zero = ap (row_after d leasts sets n list) (let e : suc k + 0 ≡ suc k = omega arith in e)
  settled k h (suc j) =
      ap (row_after d leasts sets n list) (let e : suc k + suc j ≡ suc (suc k + j) = omega arith in e)
      ∙ ap (next_row d leasts sets n list) (settled k h j)
      ∙ sym (next_row_cells (row_after d leasts sets n list k) (row_after d leasts sets n list (suc k)) h)

  -- A turn gives the row that it was given: so do all that follow.
  pub row_after_stop : (k : ℕ) (row next : List ℕ) → k < n → row ≡ row_after d leasts sets n list k → next ≡ next_row d leasts sets n list row
      → take n row ≡ take n next → next ≡ row_after d leasts sets n list n
  unfolding row_after
  row_after_stop k row next b e f t =
      to_next ∙ sym (settled k (λ a c. ap (λ (l : List ℕ). cell l a) (sym e) ∙ cells_same n row next t a c ∙ ap (λ (l : List ℕ). cell l a) to_next) (n - suc k))
      ∙ ap (row_after d leasts sets n list) (let g : suc k + (n - suc k) ≡ n = omega arith in g)
    where
      to_next : next ≡ row_after d leasts sets n list (suc k)
      to_next = f ∙ ap (next_row d leasts sets n list) e

  pub row_after_more : (k : ℕ) (row next : List ℕ) → row ≡ row_after d leasts sets n list k → next ≡ next_row d leasts sets n list row → next ≡ row_after d leasts sets n list (k + 1)
  unfolding row_after
  row_after_more k row next e f = rw (add-one k) (f ∙ ap (next_row d leasts sets n list) e)

  pub row_after_none : replicate 64 0 ≡ row_after d leasts sets n list 0
  unfolding row_after
  row_after_none = refl

-- ---- on the tables of an edge list

-- A cut of the largest value reads each value up to the cut alone.
largest_cut : (test : ℕ → Bool) (f g : ℕ → ℕ) (n x : ℕ) → ((k : ℕ) → k < n → test k ≡ true → min (f k) x ≡ min (g k) x) → min (largest test f n) x ≡ min (largest test g n) x
unfolding largest
largest_cut test f g zero x h = refl
largest_cut test f g (suc n) x h = go (bool_cases (test n)) (largest_cut test f g n x (λ k b. h k (omega arith)))
  where
    cut_each : (a b : ℕ) → min (max a b) x ≡ max (min a x) (min b x)
    cut_each a b = omega arith

    both_cut : (a b c e : ℕ) → min a x ≡ min b x → min c x ≡ min e x → min (max a c) x ≡ min (max b e) x
    both_cut a b c e p q = cut_each a c ∙ ap₂ max p q ∙ sym (cut_each b e)

    go : (test n ≡ true) ⊎ (test n ≡ false) → min (largest test f n) x ≡ min (largest test g n) x → min (largest test f (suc n)) x ≡ min (largest test g (suc n)) x
    go (inl t) rest = rw (cond_true (f n) 0 t, cond_true (g n) 0 t) (both_cut (largest test f n) (largest test g n) (f n) (g n) rest (h n (omega arith) t))
    go (inr t) rest = rw (cond_false (f n) 0 t, cond_false (g n) 0 t) (both_cut (largest test f n) (largest test g n) 0 0 rest refl)

module _ (leasts : List ℕ) {n : ℕ} {least : ℕ → ℕ} {es : List Edge} {d : List (List ℕ)} {sets : List ℕ} (l : HoldsLeasts n least leasts) (h : Holds n es d sets) where
  -- The same members, and the same term for each, up to the cut.
  start_at_from : (list row other : List ℕ) → ((a : ℕ) → a < n → cell row a ≡ min (cell other a) cut) → (v : ℕ) → v < n → start_at d leasts sets n list row v ≡ min (start_from n least es (delays list) other v) cut
  unfolding start_at start_from term
  start_at_from list row other s zero b = refl
  start_at_from list row other s (suc v) b =
      ap (λ (x : ℕ). min x cut) (largest_same_test (member sets (suc v)) (λ a. in_anchor_set n es a (suc v)) (term d leasts list row (suc v)) n (λ a c. member_anchor h a (suc v) c b))
      ∙ largest_cut (λ a. in_anchor_set n es a (suc v)) (term d leasts list row (suc v)) (λ a. cell other a + delays list a + offset n least es a (suc v)) n cut
      (λ a c m. omega (arith, s a c, offset_read h least leasts a (suc v) c b (l a c) (member_anchor h a (suc v) c b ∙ m)))

  -- Induction on the turns: the cuts on the way do not matter.
  row_after_turns : (list : List ℕ) (k v : ℕ) → v < n → cell (row_after d leasts sets n list k) v ≡ min (cell (start_turns n least es (delays list) k) v) cut
  unfolding row_after start_turns next_row
  row_after_turns list zero v b = omega (arith, zeros_at 64 v, zeros_at n v)
  row_after_turns list (suc k) v b =
      laid_at (start_at d leasts sets n list (row_after d leasts sets n list k)) n (replicate 64 0) v 0 b
      ∙ start_at_from list (row_after d leasts sets n list k) (start_turns n least es (delays list) k) (row_after_turns list k) v b
      ∙ ap (λ (x : ℕ). min x cut) (sym (tabulate_at (start_from n least es (delays list) (start_turns n least es (delays list) k)) n v 0 b))

  -- Starts below 2 ^ 32 are not cut.
  starts_times : (list : List ℕ) → ((v : ℕ) → v < n → cell (start_times n least es (delays list)) v < cut + 1) → tabulate (cell (row_after d leasts sets n list n)) n ≡ start_times n least es (delays list)
  unfolding start_times
  starts_times list s =
      tabulate_list (start_times n least es (delays list)) (cell (row_after d leasts sets n list n)) n 0 (start_times_length n least es (delays list))
      (λ v b. omega (arith, s v b, row_after_turns list n v b))

-- So what is read off the tables is the definition's.
pub started : {n : ℕ} {d : List (List ℕ)} {leasts sets list lent after row : List ℕ} → row ≡ row_after d leasts sets n list n → after ≡ tabulate (cell row) n ++ drop n lent → Started n d leasts sets list lent after
started {n} {d} {leasts} {sets} {list} {lent} {after} f e =
    let read : after ≡ tabulate (cell (row_after d leasts sets n list n)) n ++ drop n lent = e ∙ ap (λ (l : List ℕ). tabulate (cell l) n ++ drop n lent) f in
    record { read = read; times = λ least es l h s. read ∙ ap (λ (l : List ℕ). l ++ drop n lent) (starts_times leasts l h list s) }
