-- When start times exist. With all delays 0: exactly if the row of the source is stable after n rounds. For every list of delays: exactly if, besides, no walk from the end of a step comes back to it.
use mathlib.Core.Path.{◌∙◌, ◌≡◌, ap, refl, sym}
use mathlib.Core.Bool.{Bool, false, true}
use mathlib.Core.Logic.{◌↔◌}
use mathlib.Core.List.{List, Memᴰ}
use Prim.Native.Nat.{◌*◌, ◌+◌, ◌-◌, ◌<◌, ◌≤◌, suc, zero, ℕ}
use native.Mathlib.Omega.{arith}
use native.Mathlib.Nat.{mul-le-mul_right, suc-mul}
use Rattle.definitions.specs.Limits.{most_steps, most_extra, most_loss}
use Rattle.definitions.specs.Anchors.{is_source}
use Rattle.definitions.specs.Basics.{all_below, any}
use Rattle.definitions.specs.Links.{After, AfterWalk, Edge, Graph, UsableFrom, Walk, forwards, members, step, stop, usable}
use Rattle.definitions.specs.Plan.{Span, after, source}
use Rattle.definitions.specs.Rounds.{after_reaches, cell, extend, reaches, rounds, source_row, stable}
use Rattle.laws.proofs.Bools.{both_ways, cond_either, not_passing}
use Rattle.laws.proofs.Tests.{all_below_by, all_below_each, any_none, none_any}
use Rattle.theory.specs.Graphs.{ForwardAcyclic, KeepsEdge, Losses, NonPositive, Rooted, Schedule, Shape, Well, sole_delay}
use Rattle.theory.proofs.FirstRows.{source_start}
use Rattle.theory.proofs.Pigeonhole.{brief, walk_loss}
use Rattle.theory.proofs.Reachability.{forwards_mem, forwards_shape, joined_reaches, mem_forwards, reaches_joined}
use Rattle.theory.proofs.Relaxation.{Covers, Grounded, Stable, Start, covers_up, fixpoint_stable, grounded, rounds_fixed, rounds_length, rounds_offset, rounds_rise, stable_iff, stable_walk}
use Rattle.theory.proofs.Slack.{after_slack, schedule_nonpositive, slack_same, slack_zero}
use Rattle.theory.proofs.SoleDelays.{sole_delay_other, sole_delay_own}
use Rattle.theory.proofs.Usables.{usable_shape, usable_sub}
use Rattle.theory.proofs.WaitLists.{usable_reaches_iff}
use Rattle.theory.proofs.Walks.{after_start_below, joined_mono, schedule_mono, walk_from, walk_mono, walk_to}

-- A stable row says of each edge what start times must keep: its cells less 1 are such times.
extend_keeps : (r s g l : ℕ) → 1 ≤ r → extend r g l ≤ s → r - 1 + g ≤ s - 1 + l
unfolding extend
extend_keeps zero s g l h k = omega arith
extend_keeps (suc w) s g l h k = omega arith

stable_schedule : {n : ℕ} {es : List Edge} → Shape n (members es) → (row : List ℕ) → Stable es row → ((v : ℕ) → v < n → 1 ≤ cell row v) → cell row 0 ≡ 1 → Schedule (members es) (λ v. 0) (λ v. cell row v - 1)
stable_schedule {n} {es} shape row st full z = record { starts = omega arith; keeps = keeps_each }
  where
    keeps_each : (e : Edge) → Memᴰ e es → KeepsEdge (λ v. 0) (λ v. cell row v - 1) e
    keeps_each e m =
        omega (arith, extend_keeps (cell row e.from) (cell row e.to) e.gain e.loss (full e.from (shape.from_below e m)) (st e m), cond_either {A = ℕ} e.counted 0, cond_either {A = ℕ} e.late 0)

module _ {n : ℕ} {es : List Edge} (some : 0 < n) (shape : Shape n (members es)) (rooted : Rooted n (members es)) where
  -- For the source every graph is well-posed, and so grounded.
  ground : Grounded n (members es) 0
  ground = grounded shape 0 (λ e m b i. is_source refl) (λ h. rooted)

  start : Start es 0 (source_row n 0)
  start = source_start shape some ground

  abbrev settled : List ℕ
  settled = rounds es n (source_row n 0)

  source_covered : Covers (cell settled 0) 0 0
  unfolding rounds
  source_covered = covers_up (start.covers_source refl) (rounds_rise es 0 n (source_row n 0) start.fits (omega arith) 0)

  -- A row in which every edge has handed on, from a source that has its empty walk, covers every vertex.
  all_covered : (row : List ℕ) → Stable es row → Covers (cell row 0) 0 0 → (v : ℕ) → v < n → 1 ≤ cell row v
  all_covered row st c v b = (stable_walk row st 0 0 c (joined_mono (λ e m. m.0) (rooted v b)).walk).some

  -- Where no closed walk is above 0, n rounds settle the row.
  nonpositive_stable : NonPositive (members es) → Stable es (rounds es n (source_row n 0))
  nonpositive_stable never =
      fixpoint_stable es settled (λ e m. omega (arith, start.fits e m, rounds_length es n (source_row n 0))) (rounds_fixed shape some ground never start)

  source_at_zero : NonPositive (members es) → cell settled 0 ≡ 1
  source_at_zero never = go (cell settled 0) refl source_covered.some
    where
      by_span : {o p q : ℕ} → p ≡ o + q → Span (members es) 0 0 p q → o ≡ 0
      by_span h (source z w) = omega (arith, never.closed w)
      by_span h (after w) = absurd (w.not_source refl)

      go : (r : ℕ) → cell settled 0 ≡ r → 1 ≤ cell settled 0 → cell settled 0 ≡ 1
      go zero h l = absurd (omega arith)
      go (suc o) h l = let O = rounds_offset shape some ground never start 0 o h in let z = by_span O.attained O.span in omega arith

  zero_delay_schedule : NonPositive (members es) → Schedule (members es) (λ v. 0) (λ v. cell (rounds es n (source_row n 0)) v - 1)
  zero_delay_schedule never =
      let st = nonpositive_stable never in
      stable_schedule shape settled st (all_covered settled st source_covered) (source_at_zero never)

  -- A stable row with no empty cell: around a closed walk the cells come back to where they were.
  closed_in : (row : List ℕ) → Stable es row → Covers (cell row 0) 0 0 → {x y k p q : ℕ} → Walk (members es) x y k p q → x ≡ y → p ≤ q
  closed_in row st c (stop e hk hp hq) s = omega arith
  closed_in row st c {x} {y} {k} {p} {q} (step w e m f o hk hp hq) s = from_cell (cell row x) refl (all_covered row st c x (omega (arith, shape.to_below e m)))
    where
      from_cell : (r : ℕ) → cell row x ≡ r → 1 ≤ cell row x → p ≤ q
      from_cell zero h l = absurd (omega arith)
      from_cell (suc r) h l =
          omega (arith, (stable_walk row st r 0 (record { some = omega arith; enough = omega arith }) (step w e m f o hk hp hq)).enough, ap (cell row) s)

  pub stable_nonpositive : (row : List ℕ) → Stable es row → 1 ≤ cell row 0 → NonPositive (members es)
  stable_nonpositive row st h = record { closed = λ w. closed_in row st (record { some = h; enough = omega arith }) w refl }

  -- Refusal 10, and what it says.
  pub stable_nonpositive_iff : (stable es (rounds es n (source_row n 0)) ≡ true) ↔ NonPositive (members es)
  stable_nonpositive_iff = (λ h. stable_nonpositive settled ((stable_iff es settled).0 h) source_covered.some, λ never. (stable_iff es settled).1 (nonpositive_stable never))

  pub stable_schedule_iff : (stable es (rounds es n (source_row n 0)) ≡ true) ↔ ((t : ℕ → ℕ) × Schedule (members es) (λ v. 0) t)
  stable_schedule_iff = (
    λ h. ((λ v. cell settled v - 1), zero_delay_schedule (stable_nonpositive_iff.0 h)),
    λ r. stable_nonpositive_iff.1 (schedule_nonpositive r.1),
  )

  -- A graph that passes the tests for 10 and 11 can be scheduled.
  pub well_by : stable es (rounds es n (source_row n 0)) ≡ true → ((a : ℕ) → a < n → after_reaches n (usable es a) a a ≡ false) → Well n (members es)
  well_by st once =
      record { some = some; shape = shape; rooted = rooted; consistent = λ a w. both_ways ((usable_reaches_iff shape a a).1 w) (once a (after_start_below (usable_shape shape a) w)); never = stable_nonpositive_iff.0 st }

-- Every step has a chain from step 0, as a test.
pub rooted_iff : {n : ℕ} {es : List Edge} → 0 < n → Shape n (members es) → (all_below (reaches n (forwards es) 0) n ≡ true) ↔ Rooted n (members es)
rooted_iff {n} {es} some shape = (
  λ h v b. joined_mono (mem_forwards es) (reaches_joined (forwards_shape shape) some v (all_below_each (reaches n (forwards es) 0) n h v b)),
  λ rooted. all_below_by (reaches n (forwards es) 0) n (λ v b. joined_reaches (forwards_shape shape) some (joined_mono (forwards_mem es) (rooted v b))),
)

-- Forward edges close no circle, as a test: from no forward edge's end a chain leads back to its start.
pub forward_acyclic_iff : {n : ℕ} {es : List Edge} → Shape n (members es) → (any (λ e. reaches n (forwards es) e.to e.from) (forwards es) ≡ false) ↔ ForwardAcyclic (members es)
forward_acyclic_iff {n} {es} shape = (acyclic, test)
  where
    back_to : Edge → Bool
    back_to e = reaches n (forwards es) e.to e.from

    last_edge : any back_to (forwards es) ≡ false → {x y k p q j : ℕ} → Walk (members (forwards es)) x y k p q → x ≡ y → k ≡ suc j → ⊥
    last_edge h (stop e hk hp hq) s c = omega arith
    last_edge h (step w e m f o hk hp hq) s c =
        both_ways
        (joined_reaches (forwards_shape shape) ((forwards_shape shape).to_below e m) (record { k = _; p = _; q = _; walk = walk_from (o ∙ sym s) (walk_to w (sym f) refl refl refl) }))
        (any_none back_to (forwards es) h e m)

    acyclic : any back_to (forwards es) ≡ false → ForwardAcyclic (members es)
    acyclic h x k p q w = last_edge h (walk_mono (forwards_mem es) w) refl refl

    test : ForwardAcyclic (members es) → any back_to (forwards es) ≡ false
    test once =
        none_any
        back_to
        (forwards es)
        (λ e m.
        not_passing
        (back_to e)
        (λ t.
        let J = reaches_joined (forwards_shape shape) ((forwards_shape shape).to_below e m) e.from t in
        once e.to J.k _ _ (walk_mono (mem_forwards es) (step J.walk e m refl refl refl refl refl))))

-- Refusal 11. A closed walk from the end of a is cut to at most n edges. It loses at most n times the largest loss and leans on no other delay, and so no start times let a alone last longer than that.
pub closed_after_unschedulable : {n l x a : ℕ} {E : Graph} {t : ℕ → ℕ} → Shape n E → Losses E l → After (UsableFrom E a) a a → n * l < x → ¬ Schedule E (sole_delay x a) t
closed_after_unschedulable {n} {l} {x} {a} {E} shape losses w h s =
    let u = w.walk in
    let b = brief (usable_shape shape a) (shape.to_below u.edge u.mem.0) (record { k = u.k; p = u.g; q = u.l; walk = u.rest }) in
    let v : AfterWalk (UsableFrom E a) a a (u.edge.gain + b.p) (u.edge.loss + b.q) = record { not_source = u.not_source; edge = u.edge; mem = u.mem; leaves = u.leaves; counts = u.counts; k = b.k; g = b.p; l = b.q; rest = b.walk; gains = refl; losses = refl } in
    omega (
      arith,
      after_slack (usable_shape shape a) (schedule_mono (usable_sub E a) s) v,
      slack_same {d = sole_delay x a} {d' = λ y. 0} (λ y z. sole_delay_other x a y z) b.walk,
      slack_zero b.walk,
      sole_delay_own x a u.not_source,
      walk_loss (λ e m. losses e m.0) b.walk,
      losses u.edge u.mem.0,
      suc-mul b.k l,
      mul-le-mul_right l b.few,
    )

-- With the limits of a sheet: the longest duration is more than as many of the largest losses as there may be steps.
pub closed_after_limit : {n a : ℕ} {E : Graph} {t : ℕ → ℕ} → Shape n E → n ≤ most_steps → Losses E most_loss → After (UsableFrom E a) a a → ¬ Schedule E (sole_delay most_extra a) t
closed_after_limit {n} {a} shape few losses w = closed_after_unschedulable shape losses w (omega (arith, mul-le-mul_right most_loss few))
