-- Which calls of a run are refused: Begin always, Tick at the clock's end, Finish of a step that cannot finish, or that is below its least duration.
use mathlib.Core.Path.{◌≡◌, ap, ◌∙◌}
use mathlib.Core.Bool.{Bool, true, false, not, ◌||◌}
use mathlib.Core.Logic.{◌⊎◌, inl, inr}
use mathlib.Core.List.{List}
use Prim.Native.Nat.{ℕ, ◌+◌, ◌*◌, ◌≤◌, ◌<◌}
use native.Mathlib.Omega.{arith}
use lib.ListN.{length, get_or}
use borrow.Author.Tests.{eq-eqb, ne_eqb, le-leb, lt-leb, le-ltb, lt-ltb}
use Rattle.definitions.specs.Limits.{most_steps, last_tick}
use Rattle.definitions.specs.Basics.{Outcome, given, refuse_if}
use Rattle.definitions.specs.Bytes.{Records}
use Rattle.definitions.specs.Answers.{too_short, bad_count}
use Rattle.definitions.specs.Dispatcher.{Progress, sweep, begun, not_running, fresh, with_source, begin, ticked, tick, cannot_finish, too_early, ended, finish}
use Rattle.definitions.specs.declared.State.{State}
use Rattle.laws.proofs.Bools.{bool_cases, and_join, neither}
use Rattle.laws.proofs.Outcomes.{passes_by, stops_at}
use Rattle.demands.specs.Demands.{Accepted}
use Rattle.certificates.specs.Runs.{start_tick, IsLent, StateFor, CanFinish, least_end, AnswersFor}
use Rattle.certificates.proofs.Sheets.{some_steps, few_steps, lent_long}
use Rattle.certificates.proofs.Invariants.{Invariant}
use Rattle.certificates.proofs.Calls.{can_finish}

module _ {s : List ℕ} {allow : Bool} {q : Records} {w : ℕ} (accepted : Accepted s allow q w) {st : State} (invariant : Invariant q st) where
  facts : StateFor q st
  facts = invariant.timely.state

  -- Neither 15 nor 14 applies.
  runs : not_running st ≡ false
  unfolding not_running begun bad_count
  runs =
      neither (ap not facts.source.0) (ap not (and_join (le-leb 1 st.n (omega (arith, facts.count, some_steps accepted))) (le-leb st.n most_steps (omega (arith, facts.count, few_steps accepted)))))

  long : {table : List ℕ} → IsLent q table → too_short table (st.n * st.n) ≡ false
  unfolding too_short
  long {table} lent = le-ltb (length table) (st.n * st.n) (omega (arith, ap (λ (n : ℕ). n * n) facts.count, lent_long accepted lent))

  finishes : (x : ℕ) → CanFinish q st x → cannot_finish st x ≡ false
  unfolding cannot_finish
  finishes x c =
      let there = lt-leb st.n x (omega (arith, c.exists, facts.count)) in
      let lasts = (facts.open_map.stands x (omega (arith, c.not_source)) c.exists).1 c.lasts in
      neither (neither (neither (neither (ne_eqb x 0 c.not_source) there) (ap not lasts)) (ap not c.started)) c.running

  finishes_not : (x : ℕ) → ¬ CanFinish q st x → cannot_finish st x ≡ true
  finishes_not x n = go (bool_cases (cannot_finish st x))
    where
      go : (cannot_finish st x ≡ true) ⊎ (cannot_finish st x ≡ false) → cannot_finish st x ≡ true
      go (inl t) = t
      go (inr f) = absurd (n (can_finish accepted invariant x f))

  -- 20: the state has the sheet's least durations.
  late : (x : ℕ) → least_end q st x ≤ st.tick → too_early st x ≡ false
  unfolding too_early
  late x l = le-ltb st.tick (start_tick st x + get_or st.least x 0) (omega (arith, facts.leasts x))

  early : (x : ℕ) → st.tick < least_end q st x → too_early st x ≡ true
  unfolding too_early
  early x l = lt-ltb st.tick (start_tick st x + get_or st.least x 0) (omega (arith, facts.leasts x))

  pub answers_for : (table : List ℕ) → IsLent q table → AnswersFor q st table
  unfolding begin begun tick finish
  answers_for table lent = record {
    begins_never = λ n unbounded leasts. stops_at 16 (refuse_if (bad_count n) 2 (refuse_if (too_short table (n * n) || too_short leasts n) 14 (given (with_source (sweep (fresh n unbounded leasts) table))))) facts.source.0;
    ticks = λ z. past _ ∙ passes_by 18 (given (sweep (ticked st) table)) (ne_eqb st.tick last_tick z);
    clock_end = λ e. past _ ∙ stops_at 18 (given (sweep (ticked st) table)) (eq-eqb st.tick last_tick e);
    finishes = λ x c l. past _ ∙ passes_by 17 (judged_early x) (finishes x c) ∙ passes_by 20 (given (sweep (ended st x) table)) (late x l);
    finishes_early = λ x c l. past _ ∙ passes_by 17 (judged_early x) (finishes x c) ∙ stops_at 20 (given (sweep (ended st x) table)) (early x l);
    finishes_never = λ x n. past _ ∙ stops_at 17 (judged_early x) (finishes_not x n);
  }
    where
      judged_early : ℕ → Outcome Progress
      judged_early x = refuse_if (too_early st x) 20 (given (sweep (ended st x) table))

      past : (rest : Outcome Progress) → refuse_if (not_running st) 15 (refuse_if (too_short table (st.n * st.n)) 14 rest) ≡ rest
      past rest = passes_by 15 (refuse_if (too_short table (st.n * st.n)) 14 rest) runs ∙ passes_by 14 rest (long lent)
