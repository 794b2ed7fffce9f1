-- The first sweep says whether the edges can be scheduled, where it leaves no mark: then the source's column keeps every edge, and around a closed walk its cells come back to where they were.
use mathlib.Core.Path.{◌≡◌, refl, sym, ap, subst, ◌∙◌}
use mathlib.Core.Bool.{Bool, true, cond, ◌&&◌}
use mathlib.Core.Logic.{◌⊎◌, inl, inr}
use mathlib.Core.List.{List, Memᴰ}
use Prim.Native.Nat.{ℕ, ◌+◌, ◌*◌, ◌≤◌, ◌<◌}
use native.Mathlib.Omega.{arith}
use lib.Dec.{ltb}
use lib.IntN.{ℤ}
use lib.ListN.{get_or}
use borrow.Author.Tests.{le-ltb, lt-ltb, ltb-true}
use Rattle.definitions.specs.Basics.{test_bit}
use Rattle.definitions.specs.Limits.{most_gain, most_steps}
use Rattle.definitions.specs.Links.{Edge, members}
use Rattle.data_edges.specs.Words.{graph}
use Rattle.walk_feasible.specs.Search.{rests}
use Rattle.walk_feasible.proofs.Searching.{kept_stable}
use Rattle.laws.proofs.Bools.{and_split, both_ways}
use Rattle.laws.proofs.Maps.{test_zero}
use Rattle.data_relations.specs.Rows.{row_bit}
use Rattle.walk_edge.specs.Columns.{Covered, WaitsFor, column}
use Rattle.walk_edge.proofs.Handing.{below_or_not}
use Rattle.walk_seed.specs.Seeds.{Begins, Prepared}
use Rattle.walk_sweep.specs.Free.{Free, Low, Sheetlike}
use Rattle.walk_sweep.specs.Graphs.{Both, visits}
use Rattle.theory.specs.Graphs.{Gains, Rooted, Shape, SheetLeasts}
use Rattle.theory.specs.Sweeps.{hand}
use Rattle.theory.proofs.RowLaws.{extend_none, extend_some}
use Rattle.walk_heaviest.specs.Settling.{Opened}

module _
    (es : List ℕ) (least : ℕ → ℕ) (maps waiting sets : List ℕ) (n : ℕ) (some : 1 ≤ n) (few : n ≤ most_steps)
    (turned : (v k : ℕ) → row_bit waiting k v ≡ (ltb v n && row_bit maps v k)) (shape : Shape n (members (graph es)))
    (gains : Gains (members (graph es)) most_gain) (leasts : SheetLeasts least (members (graph es))) (sources : (v : ℕ) → v < n → row_bit sets v 0 ≡ true) where
  -- A wait leads to a step below n, and gains no more than an edge may.
  wait_ends : (e : Edge) → WaitsFor (least e.from) e.from (get_or waiting e.from 0) e → e.to < n
  wait_ends e w =
      let t = and_split (ltb w.target n) (row_bit maps w.target e.from) (sym (turned w.target e.from) ∙ w.waits) in
      omega (arith, ltb-true w.target n t.0, ap (λ (x : Edge). x.to) w.same)

  ends : (e : Edge) → Both es least waiting 0 e → e.to < n
  ends e (inl m) = shape.to_below e m.0
  ends e (inr w) = wait_ends e w

  light : (e : Edge) → Both es least waiting 0 e → e.gain ≤ most_gain
  light e (inl m) = gains e m.0
  light e (inr w) = omega (arith, ap (λ (x : Edge). x.gain) w.same, leasts.small e.from)

  sheetlike : Sheetlike (Both es least waiting 0) n
  sheetlike = record { ends = ends; gains = light }

  module _ {number : List ℕ} {width rows m : ℕ} {d d' : List (List ℤ)} (begun : Prepared least (members (graph es)) sets n width number rows d) (opened : Opened es least waiting number width n d d' m) where
    abbrev k : ℕ
    k = get_or number 0 0

    there : k < width
    there = begun.listed 0 0 (omega arith) (sources 0 (omega arith))

    own : begun.anchor k ≡ 0
    own = begun.numbers.back 0 (omega arith) there

    free : Free (Both es least waiting 0) (visits n) (column d k) (column d' k) (test_bit opened.marks) (test_bit m)
    free =
        subst (λ (a : ℕ). Free (Both es least waiting a) (visits n) (column d k) (column d' k) (test_bit opened.marks) (test_bit m)) own
        (opened.swept.free begun.anchor begun.numbers k there)

    begins : Begins least (members (graph es)) sets n 0 (column d k)
    begins = subst (λ (a : ℕ). Begins least (members (graph es)) sets n a (column d k)) own (begun.columns k there)

    -- The source's column begins with the walk of weight 0 at every step: step 0 has no least.
    abbrev ones : ℕ → ℕ
    ones v = cond (ltb v n) 1 0

    ones_in : (v : ℕ) → v < n → ones v ≡ 1
    ones_in v h = ap (λ (y : Bool). cond {A = ℕ} y 1 0) (lt-ltb v n h)

    ones_past : (v : ℕ) → n ≤ v → ones v ≡ 0
    ones_past v h = ap (λ (y : Bool). cond {A = ℕ} y 1 0) (le-ltb v n h)

    under_ones : (v : ℕ) → column d k v ≤ ones v
    under_ones = begins.sound ones (λ e i l. absurd (l.not_source refl)) (λ v b q. omega (arith, ones_in v b, leasts.source))

    first_low : Low n 1 (column d k)
    first_low =
        record { live = λ v b. omega (arith, begins.live v b (sources v b)); most = λ v. most v (below_or_not v n); none = λ v b. omega (arith, under_ones v, ones_past v b) }
      where
        most : (v : ℕ) → (v < n) ⊎ (n ≤ v) → column d k v ≤ 1
        most v (inl b) = omega (arith, under_ones v, ones_in v b)
        most v (inr b) = omega (arith, under_ones v, ones_past v b)

    -- At first every step below n has a mark, and no other holds a walk.
    first_covered : Covered (Both es least waiting 0) (column d k) (test_bit opened.marks)
    first_covered e i q = by (below_or_not e.from n)
      where
        by : (e.from < n) ⊎ (n ≤ e.from) → hand (column d k) e ≤ column d k e.to
        by (inl b) = absurd (both_ways (opened.all e.from ∙ lt-ltb e.from n b) q)
        by (inr b) = omega (arith, extend_none (column d k e.from) e.gain e.loss (first_low.none e.from b))

    pub rest_stable : Rooted n (members (graph es)) → m ≡ 0 → rests n es ≡ true
    rest_stable rooted z = kept_stable es n some shape rooted (column d' k) keeps
      where
        low : Low n (1 + most_gain * (visits n)) (column d' k)
        low = free.low n 1 sheetlike first_low

        keeps : (e : Edge) → Memᴰ e (graph es) → column d' k e.from + e.gain ≤ column d' k e.to + e.loss
        keeps e i =
            omega (arith, free.covers n 1 sheetlike first_low first_covered e (inl (i, λ l. shape.late_not_source e i l.0 l.1)) (ap (λ (x : ℕ). test_bit x e.from) z ∙ test_zero e.from), extend_some (column d' k e.from) e.gain e.loss (low.live e.from (shape.from_below e i)))
