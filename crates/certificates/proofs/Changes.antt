-- What a call changes before its sweep, and what a call that is not refused gives. For any state and any table.
use mathlib.Core.Path.{◌≡◌, refl, sym, ap, ◌∙◌}
use mathlib.Core.Bool.{true, false, ◌||◌}
use mathlib.Core.Logic.{◌⊎◌, inl, inr, ◌≢◌}
use mathlib.Core.List.{List, ◌++◌}
use Prim.Native.Nat.{ℕ, ◌+◌, ◌-◌, ◌*◌, ◌≤◌, ◌<◌}
use native.Mathlib.Omega.{arith}
use lib.Dec.{eqb}
use lib.ListN.{length, get_or, take, replicate, get_or-append}
use lib.Seq.{get_or-set_same, get_or-set_other, get_or-take, get_or-append-add, length-take-le}
use borrow.Author.Tests.{eqb-true, eqb-false, eq-eqb}
use Rattle.definitions.specs.Limits.{most_steps, last_tick}
use Rattle.definitions.specs.Basics.{test_bit, given}
use Rattle.definitions.specs.Answers.{too_short, bad_count}
use Rattle.definitions.specs.Dispatcher.{Progress, sweep, begun, not_running, kept_leasts, fresh, with_source, begin, ticked, tick, cannot_finish, too_early, ended, finish, called}
use Rattle.definitions.specs.declared.Call.{Call}
use Rattle.definitions.specs.declared.Call.TheVariants.{Begin, Tick, Finish}
use Rattle.definitions.specs.declared.State.{State}
use Rattle.laws.proofs.Bools.{or_split, or_left, or_right}
use Rattle.laws.proofs.Lists.{zeros_at}
use Rattle.laws.proofs.Maps.{test_insert}
use Rattle.laws.proofs.Outcomes.{three_pass, four_pass}
use Rattle.certificates.specs.Runs.{Finished, finish_tick}

-- Finish x: what has finished then is what had, and x. Its finish tick is the tick, and the others stay.
module _ (st : State) (x : ℕ) where
  pub ended_finished : (v : ℕ) → Finished (ended st x) v → Finished st v ⊎ (v ≡ x)
  unfolding ended
  ended_finished v h = go (or_split (test_bit st.finished v) (eqb v x) (sym (test_insert st.finished x v) ∙ h))
    where
      go : (test_bit st.finished v ≡ true) ⊎ (eqb v x ≡ true) → Finished st v ⊎ (v ≡ x)
      go (inl t) = inl t
      go (inr t) = inr (eqb-true v x t)

  pub ended_still : (v : ℕ) → Finished st v → Finished (ended st x) v
  unfolding ended
  ended_still v h = test_insert st.finished x v ∙ or_left (eqb v x) h

  pub ended_own : Finished (ended st x) x
  unfolding ended
  ended_own = test_insert st.finished x x ∙ or_right (test_bit st.finished x) (eq-eqb x x refl)

  pub ended_own_tick : x < length st.finish → finish_tick (ended st x) x ≡ st.tick
  unfolding ended
  ended_own_tick b = get_or-set_same st.finish x st.tick 0 b

  pub ended_other_tick : (v : ℕ) → v ≢ x → finish_tick (ended st x) v ≡ finish_tick st v
  unfolding ended
  ended_other_tick v z = get_or-set_other st.finish x v st.tick 0 z

-- The least durations that a run takes along: those lent, and 0 past them.
pub kept_at : (n : ℕ) (leasts : List ℕ) (v : ℕ) → n ≤ length leasts → v < n → get_or (kept_leasts n leasts) v 0 ≡ get_or leasts v 0
unfolding kept_leasts
kept_at n leasts v h b = get_or-append (take n leasts) (replicate (most_steps - n) 0) 0 v (omega (arith, length-take-le n leasts h)) ∙ get_or-take n leasts v 0 b

pub kept_past : (n : ℕ) (leasts : List ℕ) (v : ℕ) → n ≤ length leasts → n ≤ v → get_or (kept_leasts n leasts) v 0 ≡ 0
unfolding kept_leasts
kept_past n leasts v h b =
    let size = length-take-le n leasts h in
    let e : v ≡ length (take n leasts) + (v - n) = omega arith in
    ap (λ (i : ℕ). get_or (take n leasts ++ replicate (most_steps - n) 0) i 0) e ∙ get_or-append-add (take n leasts) (replicate (most_steps - n) 0) (v - n) 0 ∙ zeros_at (most_steps - n) (v - n)

-- What a call gives that is not refused: the sweep of the changed state. The tests of its refusals fail.
pub data Given (st : State) (table leasts : List ℕ) (c : Call) (g : Progress) : Type 0 where
  begins_anew : (n unbounded : ℕ) → c ≡ Begin n unbounded → begun st ≡ false → g ≡ with_source (sweep (fresh n unbounded leasts) table) → Given st table leasts c g
  ticks_on : c ≡ Tick → st.tick ≢ last_tick → g ≡ sweep (ticked st) table → Given st table leasts c g
  ends : (x : ℕ) → c ≡ Finish x → cannot_finish st x ≡ false → too_early st x ≡ false → g ≡ sweep (ended st x) table → Given st table leasts c g

pub begin_gives : (st : State) (n unbounded : ℕ) (leasts table : List ℕ) (g : Progress) → begin st n unbounded leasts table ≡ given g → g ≡ with_source (sweep (fresh n unbounded leasts) table)
unfolding begin
begin_gives st n unbounded leasts table g h = (three_pass (begun st) (bad_count n) (too_short table (n * n) || too_short leasts n) 16 2 14 (with_source (sweep (fresh n unbounded leasts) table)) g h).2

pub call_gives : (st : State) (table leasts : List ℕ) (c : Call) (g : Progress) → called st table leasts c ≡ given g → Given st table leasts c g
unfolding called begin tick finish
call_gives st table leasts (Begin n unbounded) g h =
    let r = three_pass (begun st) (bad_count n) (too_short table (n * n) || too_short leasts n) 16 2 14 (with_source (sweep (fresh n unbounded leasts) table)) g h in
    begins_anew n unbounded refl r.0 r.2
call_gives st table leasts Tick g h =
    let r = three_pass (not_running st) (too_short table (st.n * st.n)) (eqb st.tick last_tick) 15 14 18 (sweep (ticked st) table) g h in
    ticks_on refl (eqb-false st.tick last_tick r.1) r.2
call_gives st table leasts (Finish x) g h =
    let r = four_pass (not_running st) (too_short table (st.n * st.n)) (cannot_finish st x) (too_early st x) 15 14 17 20 (sweep (ended st x) table) g h in
    ends x refl r.0 r.1 r.2
