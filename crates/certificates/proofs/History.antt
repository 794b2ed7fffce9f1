-- What a call of a run changes: the steps that its map names start, the step that it ends has finished, and nothing else.
use mathlib.Core.Path.{◌≡◌, refl, sym, ap, subst, ◌∙◌}
use mathlib.Core.Bool.{Bool, true, false}
use mathlib.Core.Logic.{◌⊎◌, inl, inr, ◌↔◌}
use mathlib.Core.List.{List}
use Prim.Native.Nat.{ℕ, ◌+◌, ◌≤◌}
use native.Mathlib.Omega.{arith}
use lib.ListN.{length, get_or}
use Rattle.definitions.specs.Basics.{test_bit, Outcome, given, refused}
use Rattle.definitions.specs.Bytes.{Records}
use Rattle.definitions.specs.Dispatcher.{Progress, sweep, begun, fresh, with_source, ticked, cannot_finish, ended, called, state_after, map_after}
use Rattle.definitions.specs.declared.Call.{Call}
use Rattle.definitions.specs.declared.Call.TheVariants.{Tick, Finish}
use Rattle.definitions.specs.declared.State.{State}
use Rattle.laws.proofs.Bools.{both_ways}
use Rattle.laws.proofs.Maps.{test_zero}
use Rattle.demands.specs.Demands.{Accepted}
use Rattle.certificates.specs.Runs.{Started, Finished, finish_tick, Starts, SweepFor, HistoryFor, BeginNamed, StateFor, CanFinish}
use Rattle.certificates.proofs.Sheets.{few_steps}
use Rattle.certificates.proofs.Sweeps.{sweep_for}
use Rattle.certificates.proofs.Changes.{ended_finished, ended_still, ended_own_tick, ended_other_tick, Given, begins_anew, ticks_on, ends, begin_gives, call_gives}
use Rattle.certificates.proofs.Invariants.{Invariant}
use Rattle.certificates.proofs.Calls.{can_finish, finished_other}

-- The map of a Begin is the map of what has started: of step 0, and of what the sweep starts.
pub begin_names : BeginNamed
unfolding with_source
begin_names before n unbounded leasts table g h =
    subst (λ (x : Progress). (x.state.tick ≡ 0) × ((v : ℕ) → (test_bit x.map v ≡ true) ↔ Started x.state v)) (sym (begin_gives before n unbounded leasts table g h)) (unfold sweep fresh in refl, λ v. unfold sweep fresh in (λ t. t, λ t. t))

-- A refused call changes nothing and names none.
unchanged : (st : State) (c : Call) → HistoryFor st c 0 st
unchanged st c = record {
  named = λ v. (λ h. absurd (both_ways h (test_zero v)), λ r. absurd (both_ways r.1 r.0));
  starts_now = λ v f t. absurd (both_ways t f);
  starts_kept = λ v h. (h, refl);
  finishes_now = λ v f t. absurd (both_ways t f);
  finishes_kept = λ v h. (h, refl);
  clock = inl refl;
}

-- A sweep of a state that differs from st in the tick and in what has finished. By the rule in words.
module _ (st next : State) (table : List ℕ) (c : Call) (rule : SweepFor next table) (same-started : next.started ≡ st.started) (same_start : next.start ≡ st.start) where
  not_yet : (v : ℕ) → test_bit st.started v ≡ false → Started (sweep next table).state v → Starts next table v
  not_yet v f t = go ((rule.started v).0 t)
    where
      go : Started next v ⊎ Starts next table v → Starts next table v
      go (inl h) = absurd (both_ways (ap (λ (m : ℕ). test_bit m v) (sym same-started) ∙ h) f)
      go (inr S) = S

  already : (v : ℕ) → Started st v → Started next v
  already v h = ap (λ (m : ℕ). test_bit m v) same-started ∙ h

  -- Beside what the sweep starts: what finishes by the call, what had finished before it, and the clock.
  abbrev Finishes : Type 0
  Finishes = (v : ℕ) → test_bit st.finished v ≡ false → Finished next v → (c ≡ Finish v) × (finish_tick next v ≡ next.tick)

  abbrev Keeps : Type 0
  Keeps = (v : ℕ) → Finished st v → Finished next v × (finish_tick next v ≡ finish_tick st v)

  abbrev Clock : Type 0
  Clock = (next.tick ≡ st.tick) ⊎ ((c ≡ Tick) × (next.tick ≡ st.tick + 1))

  swept_history : Finishes → Keeps → Clock → HistoryFor st c (sweep next table).map (sweep next table).state
  unfolding sweep
  swept_history now kept clock = record {
    named = λ v. (λ h. let S = (rule.map v).0 h in (ap (λ (m : ℕ). test_bit m v) (sym same-started) ∙ S.not_yet, (rule.started v).1 (inr S)), λ r. (rule.map v).1 (not_yet v r.0 r.1));
    starts_now = λ v f t. rule.now v (not_yet v f t);
    starts_kept = λ v h. ((rule.started v).1 (inl (already v h)), rule.others v (λ S. both_ways (already v h) S.not_yet) ∙ ap (λ (l : List ℕ). get_or l v 0) same_start);
    finishes_now = now;
    finishes_kept = kept;
    clock = clock;
  }

module _ {s : List ℕ} {allow : Bool} {q : Records} {w : ℕ} (accepted : Accepted s allow q w) {st : State} (invariant : Invariant q st) where
  facts : StateFor q st
  facts = invariant.timely.state

  sized : st.n ≤ length st.start
  sized = omega (arith, invariant.timely.starts_size, facts.count, few_steps accepted)

  ticked_history : (table : List ℕ) → HistoryFor st Tick (sweep (ticked st) table).map (sweep (ticked st) table).state
  unfolding ticked
  ticked_history table = swept_history st (ticked st) table Tick (sweep_for (ticked st) table sized) refl refl (λ v f t. absurd (both_ways t f)) (λ v h. (h, refl)) (inr (refl, refl))

  ended_history : (x : ℕ) → cannot_finish st x ≡ false → (table : List ℕ) → HistoryFor st (Finish x) (sweep (ended st x) table).map (sweep (ended st x) table).state
  unfolding ended
  ended_history x can table =
      swept_history st (ended st x) table (Finish x) (sweep_for (ended st x) table sized) refl refl
      (λ v f t. now v f (ended_finished st x v t))
      (λ v h. (ended_still st x v h, ended_other_tick st x v (finished_other finishing v h)))
      (inl refl)
    where
      finishing : CanFinish q st x
      finishing = can_finish accepted invariant x can

      now : (v : ℕ) → test_bit st.finished v ≡ false → Finished st v ⊎ (v ≡ x) → (Finish x ≡ Finish v) × (finish_tick (ended st x) v ≡ st.tick)
      now v f (inl t) = absurd (both_ways t f)
      now v f (inr e) =
          (ap Finish (sym e), ap (finish_tick (ended st x)) e ∙ ended_own_tick st x (omega (arith, finishing.exists, invariant.timely.finishes_size, few_steps accepted)))

  given_history : {c : Call} {table leasts : List ℕ} {g : Progress} → Given st table leasts c g → HistoryFor st c g.map g.state
  given_history (begins_anew n unbounded e f h) = absurd (both_ways facts.source.0 (unfold begun in f))
  given_history {table = table} (ticks_on e z h) = rw (e, h) (ticked_history table)
  given_history {table = table} (ends x e f l h) = rw (e, h) (ended_history x f table)

  pub history_for : (c : Call) (leasts table : List ℕ) → HistoryFor st c (map_after (called st table leasts c)) (state_after st (called st table leasts c))
  unfolding state_after map_after
  history_for c leasts table = go (called st table leasts c) (λ g h. given_history (call_gives st table leasts c g h))
    where
      go : (o : Outcome Progress) → ((g : Progress) → o ≡ given g → HistoryFor st c g.map g.state) → HistoryFor st c (map_after o) (state_after st o)
      go (given g) h = h g refl
      go (refused k) h = unchanged st c
