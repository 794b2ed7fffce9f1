-- From the answers of judging to the graph of a sheet: a sheet that passes 8, 10 and 11 can be scheduled for all delays, one that passes 28 can have its waits put in, and what 10, 11 and 28 say of it.
use mathlib.Core.Path.{◌≡◌, sym, ap, subst}
use mathlib.Core.Bool.{true, false, not}
use mathlib.Core.Logic.{◌↔◌}
use mathlib.Core.List.{List}
use Prim.Native.Nat.{ℕ, ◌<◌}
use borrow.Author.Tests.{not-true, not-false}
use Rattle.definitions.specs.Links.{Edge, members, After, UsableFrom, usable}
use Rattle.definitions.specs.Rounds.{rounds, stable, source_row, after_reaches}
use Rattle.definitions.specs.Waits.{needs_waits, serialized}
use Rattle.definitions.specs.Answers.{closes_circle, infeasible, inconsistent, unserializable}
use Rattle.laws.proofs.Bools.{not_passing, both_ways, or_neither}
use Rattle.laws.proofs.Tests.{any_below_has, any_below_none}
use Rattle.theory.specs.Graphs.{Entered, Schedule, Shape, Rooted, ForwardAcyclic, NonPositive, Serializable, Well}
use Rattle.theory.proofs.Serialization.{waited_rooted}
use Rattle.theory.proofs.WaitLists.{serialized_none, serialized_shape, serialized_waited, usable_reaches_iff}
use Rattle.theory.proofs.Feasibility.{stable_nonpositive_iff, stable_schedule_iff, well_by, forward_acyclic_iff}
use Rattle.theory.proofs.Entering.{entered_rooted}
use Rattle.demands.proofs.Judging.{Passes}

module _ {n : ℕ} {es : List Edge} (some : 0 < n) (shape : Shape n (members es)) where
  -- Not 8; and then every step has a chain from step 0, where an edge leads into each.
  pub circle_free : (closes_circle n es ≡ false) ↔ ForwardAcyclic (members es)
  unfolding closes_circle
  circle_free = forward_acyclic_iff shape

  pub not_8 : closes_circle n es ≡ false → ForwardAcyclic (members es)
  not_8 h = circle_free.0 h

  pub acyclic_rooted : Entered n (members es) → closes_circle n es ≡ false → Rooted n (members es)
  acyclic_rooted entered h = entered_rooted shape entered (not_8 h)

  -- 10: no start times keep the edges with delays 0; some closed walk is above 0.
  module _ (rooted : Rooted n (members es)) where
    pub is_10 : (infeasible n es ≡ true) ↔ ((t : ℕ → ℕ) → ¬ Schedule (members es) (λ a. 0) t)
    unfolding infeasible
    is_10 =
        let r = stable_schedule_iff some shape rooted in
        (λ h t s. both_ways (r.1 (t, s)) (not-true (stable es (rounds es n (source_row n 0))) h), λ f. ap not (not_passing (stable es (rounds es n (source_row n 0))) (λ h. let s = r.0 h in f s.0 s.1)))

    pub feasible_iff : (infeasible n es ≡ false) ↔ NonPositive (members es)
    unfolding infeasible
    feasible_iff =
        let r = stable_nonpositive_iff some shape rooted in
        (λ h. r.0 (not-false (stable es (rounds es n (source_row n 0))) h), λ p. ap not (r.1 p))

    -- 11: an open step waits for its own end.
    pub is_11 : inconsistent n es ≡ true → (a : ℕ) × After (UsableFrom (members es) a) a a
    unfolding inconsistent
    is_11 h = let r = any_below_has (λ a. after_reaches n (usable es a) a a) n h in (r.0, (usable_reaches_iff shape r.0 r.0).0 r.2)

    -- Neither: the graph can be scheduled for all delays.
    pub not_10_11 : infeasible n es ≡ false → inconsistent n es ≡ false → Well n (members es)
    unfolding infeasible inconsistent
    not_10_11 h k =
        well_by some shape rooted (not-false (stable es (rounds es n (source_row n 0))) h) (λ a b. any_below_none (λ a. after_reaches n (usable es a) a a) n k a b)

  pub passes_well : Entered n (members es) → Passes n es → Well n (members es)
  passes_well entered P = not_10_11 (acyclic_rooted entered P.no_circle) P.feasible P.consistent

-- Not 28: the waits can be put in.
module _ (least : ℕ → ℕ) {n : ℕ} {es : List Edge} (some : 0 < n) (shape : Shape n (members es)) (rooted : Rooted n (members es)) where
  pub serialized_rooted : Rooted n (members (serialized n least es))
  serialized_rooted = waited_rooted (serialized_waited shape) rooted

  pub serializable_iff : (unserializable n least es ≡ false) ↔ Serializable (members (serialized n least es))
  unfolding unserializable
  serializable_iff =
      let both = or_neither (closes_circle n (serialized n least es)) (infeasible n (serialized n least es)) in
      let c = circle_free some (serialized_shape shape least) in
      let f = feasible_iff some (serialized_shape shape least) serialized_rooted in
      (λ h. let r = both.0 h in record { acyclic = c.0 r.0; never = f.0 r.1 }, λ s. both.1 (c.1 s.acyclic, f.1 s.never))

-- Where no waits are needed they can be put in: the sheet is as sent.
pub unneeded_serializable : (least : ℕ → ℕ) {n : ℕ} {es : List Edge} → Well n (members es) → ForwardAcyclic (members es) → needs_waits n es ≡ false → unserializable n least es ≡ false
unneeded_serializable least well once none =
    (serializable_iff least well.some well.shape well.rooted).1
    (subst (λ (l : List Edge). Serializable (members l)) (sym (serialized_none well.shape least none)) (record { acyclic = once; never = well.never }))
