-- What is promised of runs holds of what the runner's functions return: the contracts are equations with the definitions of which the crate certificates proves it.
use mathlib.Core.Path.{◌≡◌, refl, sym, ap, subst, ◌∙◌}
use Rattle.std.specs.Prelude.{Err, Ok}
use Rattle.definitions.specs.Numbers.{Status, status_of}
use mathlib.Core.Bool.{Bool, false, true, ◌||◌}
use mathlib.Core.Logic.{◌↔◌}
use mathlib.Core.List.{List}
use Prim.Native.Nat.{ℕ, ◌*◌, ◌≤◌}
use native.Mathlib.Omega.{arith}
use lib.Dec.{eqb}
use lib.ListN.{drop, length, length-replicate, take}
use lib.Seq.{take_at}
use Rattle.definitions.specs.Answers.{Beginning, bad_count, count_of, leasts_of, serialized_of, steps_answer, too_short}
use Rattle.definitions.specs.Basics.{Outcome, given, refuse_if, refused, test_bit}
use Rattle.definitions.specs.Bytes.{Records}
use Rattle.definitions.specs.Dispatcher.{Progress, Returns, begin, begun, called, cannot_finish, ended, finish, fresh, map_after, not_running, state_after, sweep, tick, ticked, too_early, with_source}
use Rattle.definitions.specs.Limits.{last_tick, most_steps}
use Rattle.definitions.specs.Plan as Plan
use Rattle.definitions.specs.declared.Call.{Call}
use Rattle.definitions.specs.declared.Call.TheVariants.{Begin, Finish, Tick}
use Rattle.definitions.specs.declared.Dispatch.{Dispatch}
use Rattle.definitions.specs.declared.State.{State}
use Rattle.demands.specs.Demands.{Accepted}
use Rattle.run_calls.specs.Calls.{BeginReturned, FinishReturned, TickReturned}
use Rattle.run_calls.proofs.CallLaws.{count_fits}
use Rattle.run_sheet.specs.Steps.{left_in}
use Rattle.demands.proofs.Demands.{calls_exactly}
use Rattle.demands.proofs.Demands as Demands
use Rattle.laws.proofs.Outcomes.{given_not_refused, given_same, refuse_given, refused_same, three_pass, four_pass}
use Rattle.certificates.specs.Runs.{HistoryFor, IsLent, Run, Starts, SweepFor}
use Rattle.certificates.specs.Runs as Runs
use Rattle.certificates.proofs.Runs.{begin_named, begun_with_steps, certificate, history_kept, nothing_stuck, planned_ticks, run_answers, run_states, sweeps_meant}
use Rattle.promises.specs.Runs.{AnswerFor, CallReturned, EachCallStarts, PlanCanBeLent, RefusalsKeep, RefusedBy, RunReturned, RunnerKeepsPlan, StartedBy, StepsBeginRuns, StepsRefusalsKeep, WentThrough, begins, goes_on}

-- The contracts of the three calls are one: of the call, by its arguments.
returned : (st : State) (table leasts : List ℕ) (c : Call) (r : Dispatch) → CallReturned st table leasts c r → Returns st (called st table leasts c) r
unfolding called
returned st table leasts (Begin n unbounded) r e = e
returned st table leasts Tick r e = e
returned st table leasts (Finish s) r e = e

-- The outcome that a status stands for, beside the state and the map returned.
module _ {st : State} {o : Outcome Progress} (r : Dispatch) (R : Returns st o r) where
  abbrev progress : Progress
  progress = record { state = r.state; map = r.map }

  through_given : WentThrough r → o ≡ given progress
  through_given done = sym R.answer ∙ ap (λ (x : Status). status_of x progress) done

  given_through : (g : Progress) → o ≡ given g → WentThrough r
  given_through g e = go r.status refl
    where
      go : (x : Status) → r.status ≡ x → WentThrough r
      go (Ok tt) h = h
      go (Err why) h = absurd (given_not_refused (sym e ∙ sym R.answer ∙ ap (λ (x : Status). status_of x progress) h))

  refused_by : (k : ℕ) → o ≡ refused k → RefusedBy r k
  refused_by k e = go r.status refl
    where
      go : (x : Status) → r.status ≡ x → RefusedBy r k
      go (Ok tt) h = absurd (given_not_refused (sym (ap (λ (x : Status). status_of x progress) h) ∙ R.answer ∙ e))
      go (Err why) h = (why, h, refused_same (sym (ap (λ (x : Status). status_of x progress) h) ∙ R.answer ∙ e))

  by_refused : (k : ℕ) → RefusedBy r k → o ≡ refused k
  by_refused k h = sym R.answer ∙ ap (λ (x : Status). status_of x progress) h.1 ∙ ap refused h.2

-- A refusal returns what it was given.
pub refusals_keep : RefusalsKeep
unfolding state_after map_after
refusals_keep st table leasts c r k e h =
    let R = returned st table leasts c r e in
    let o = by_refused r R k h in
    (R.state ∙ ap (state_after st) o, R.map ∙ ap map_after o)

pub steps_refusals_keep : StepsRefusalsKeep
steps_refusals_keep s lent why after R = rw (R.n ∙ kept (λ b. b.n), R.unbounded ∙ kept (λ b. b.unbounded), R.leasts ∙ kept (λ b. b.leasts))
  where
    kept : {A : Type 0} (part : Beginning → A) → part (left_in lent (steps_answer s lent.leasts)) ≡ part lent
    kept part = ap (λ (o : Outcome Beginning). part (left_in lent o)) (sym R.answer)

-- What the sweep of a state starts, said of what was returned.
module _ {st next : State} (table : List ℕ) (r : Dispatch) (R : Returns st (given (sweep next table)) r) (room : next.n ≤ length next.start) where
  rule : SweepFor next table
  rule = sweeps_meant next table room

  swept_state : StartedBy next table r.state
  unfolding state_after
  swept_state = rw R.state (record { started = rule.started; now = rule.now; others = rule.others })

  swept_map : (v : ℕ) → (test_bit r.map v ≡ true) ↔ Starts next table v
  unfolding map_after
  swept_map v = rw R.map (rule.map v)

-- A Tick, or a Finish, that went through is the sweep of the state in which the tick has grown, or the step has finished.
tick_swept : (st : State) (table : List ℕ) (r : Dispatch) → TickReturned st table r → WentThrough r → Returns st (given (sweep (ticked st) table)) r
unfolding tick
tick_swept st table r R done =
    let passed = three_pass (not_running st) (too_short table (st.n * st.n)) (eqb st.tick last_tick) 15 14 18 (sweep (ticked st) table) (progress r R) (through_given r R done) in
    subst (λ (o : Outcome Progress). Returns st o r) (through_given r R done ∙ ap given passed.2) R

finish_swept : (st : State) (s : ℕ) (table : List ℕ) (r : Dispatch) → FinishReturned st s table r → WentThrough r → Returns st (given (sweep (ended st s) table)) r
unfolding finish
finish_swept st s table r R done =
    let passed = four_pass (not_running st) (too_short table (st.n * st.n)) (cannot_finish st s) (too_early st s) 15 14 17 20 (sweep (ended st s) table) (progress r R) (through_given r R done) in
    subst (λ (o : Outcome Progress). Returns st o r) (through_given r R done ∙ ap given passed.2) R

-- A Begin that went through is the sweep of the state in which all is set anew, with room for its start ticks; the map has step 0 besides.
module _ (st : State) (n unbounded : ℕ) (leasts table : List ℕ) (r : Dispatch) (R : BeginReturned st n unbounded leasts table r) (done : WentThrough r) where
  abbrev after : Progress
  after = with_source (sweep (fresh n unbounded leasts) table)

  begin_passed : (bad_count n ≡ false) × (progress r R ≡ after)
  unfolding begin
  begin_passed =
      let first = (refuse_given (begun st) 16 (refuse_if (bad_count n) 2 (refuse_if (too_short table (n * n) || too_short leasts n) 14 (given after))) (progress r R)).0 (through_given r R done) in
      let second = (refuse_given (bad_count n) 2 (refuse_if (too_short table (n * n) || too_short leasts n) 14 (given after)) (progress r R)).0 first.1 in
      let third = (refuse_given (too_short table (n * n) || too_short leasts n) 14 (given after) (progress r R)).0 second.1 in
      (second.0, sym (given_same third.1))

  begin_state : r.state ≡ (sweep (fresh n unbounded leasts) table).state
  unfolding with_source
  begin_state = ap (λ (g : Progress). g.state) begin_passed.1

  begin_room : (fresh n unbounded leasts).n ≤ length (fresh n unbounded leasts).start
  unfolding fresh
  begin_room = omega (arith, count_fits n begin_passed.0, length-replicate {A = ℕ} most_steps 0)

  begin_starts : StartedBy (fresh n unbounded leasts) table r.state
  begin_starts =
      let rule = sweeps_meant (fresh n unbounded leasts) table begin_room in
      rw begin_state (record { started = rule.started; now = rule.now; others = rule.others })

pub each_call_starts : EachCallStarts
unfolding ticked ended
each_call_starts = record {
  begin = begin_starts;
  begin_map = λ st n unbounded leasts table r R done. begin_named st n unbounded leasts table (progress r R) (through_given r R done);
  tick = λ st table r room R done. swept_state table r (tick_swept st table r R done) room;
  tick_map = λ st table r room R done. swept_map table r (tick_swept st table r R done) room;
  finish = λ st s table r room R done. swept_state table r (finish_swept st s table r R done) room;
  finish_map = λ st s table r room R done. swept_map table r (finish_swept st s table r R done) room;
}

-- What was returned makes a run of the definitions.
run_of : {q : Records} {st : State} → RunReturned q st → Run q st
run_of (begins before unbounded leasts table r open_map are lent R done e) = Runs.begins before unbounded leasts table (progress r R) open_map are lent (through_given r R done) e
run_of (goes_on {before = before} run c leasts table r lent R e) = Runs.goes_on (run_of run) c leasts table lent (e ∙ (returned before table leasts c r R).state)

-- By the theorem of the crate certificates on what the definitions give.
pub steps_begin_runs : StepsBeginRuns
steps_begin_runs s q lent after sheet R =
    let three = begun_with_steps s q lent.leasts after sheet (sym R.answer) in
    record {
      count = three.count;
      open_map = three.open_map;
      leasts = three.leasts;
      run = λ before table r t e done. begins before after.unbounded after.leasts table r three.open_map three.leasts t (subst (λ (n : ℕ). BeginReturned before n after.unbounded after.leasts table r) three.count e) done refl;
    }

pub plan_can_be_lent : PlanCanBeLent
plan_can_be_lent s allow q table r after w sheet e h =
    let call = (calls_exactly s allow q sheet).plan table in
    let accepted : Accepted s allow q w = record { sheet = sheet; accepts = ((call.accepted w).0 (sym e.verdict ∙ h)).0 } in
    let numbers = e.numbers ∙ call.numbers w (sym e.verdict ∙ h) in
    let size = (Demands.plan_table s allow q w accepted).size in
    (accepted, record { plan = ap (take (count_of q * count_of q)) numbers ∙ take_at (Plan.plan_table (count_of q) (leasts_of q) (serialized_of q)) (drop (count_of q * count_of q) table) (count_of q * count_of q) size })

-- State by state from the theorems of the crate certificates, and call by call from what the calls answer there.
pub runner_keeps_plan : RunnerKeepsPlan
runner_keeps_plan s allow q w accepted st returned-run =
    let run = run_of returned-run in
    record {
      on_time = planned_ticks s allow q w accepted st run;
      certified = certificate s allow q w accepted st run;
      state = run_states s allow q w accepted st run;
      not_stuck = nothing_stuck s allow q w accepted st run;
      calls = λ c leasts table r lent e. record { answer = answer run c leasts table r lent e; history = history run c leasts table r (returned st table leasts c r e) };
    }
  where
    history : Run q st → (c : Call) (leasts table : List ℕ) (r : Dispatch) → Returns st (called st table leasts c) r → HistoryFor st c r.map r.state
    history run c leasts table r R = rw (R.map, R.state) (history_kept s allow q w accepted st run c leasts table)

    answer : Run q st → (c : Call) (leasts table : List ℕ) (r : Dispatch) → IsLent q table → CallReturned st table leasts c r → AnswerFor q st c r
    answer run (Begin n unbounded) leasts table r lent R = refused_by r R 16 ((run_answers s allow q w accepted st run table lent).begins_never n unbounded leasts)
    answer run Tick leasts table r lent R =
        let a = run_answers s allow q w accepted st run table lent in
        (λ z. given_through r R (sweep (ticked st) table) (a.ticks z), λ e. refused_by r R 18 (a.clock_end e))
    answer run (Finish x) leasts table r lent R =
        let a = run_answers s allow q w accepted st run table lent in (
          λ can late. given_through r R (sweep (ended st x) table) (a.finishes x can late),
          λ can early. refused_by r R 20 (a.finishes_early x can early),
          λ cannot. refused_by r R 17 (a.finishes_never x cannot),
        )
