-- The theorems: one for each statement of specs/Runs.antt, in its order.
use native.Mathlib.Omega.{arith}
use Rattle.certificates.specs.Runs.{SweepsMeant, BegunWithSteps, PlannedTicks, RunStates, RunAnswers, HistoryKept, BeginNamed, NothingStuck, Certificate, RunsMet}
use Rattle.certificates.proofs.Sheets.{decider_member}
use Rattle.certificates.proofs.Sweeps.{sweep_for}
use Rattle.certificates.proofs.Begun.{begins_run}
use Rattle.certificates.proofs.Calls.{run_keeps}
use Rattle.certificates.proofs.Answers.{answers_for}
use Rattle.certificates.proofs.History.{begin_names, history_for}
use Rattle.certificates.proofs.Waiting.{waits_on}
use Rattle.certificates.proofs.Certificates.{certified}
use Rattle.certificates.proofs.Examples.{examples}

-- The tests of the rule, one by one.
pub sweeps_meant : SweepsMeant
sweeps_meant = sweep_for

-- The answer is the sheet's three parts, as they are defined.
pub begun_with_steps : BegunWithSteps
begun_with_steps s q lent b sheet e = begins_run sheet lent b e

-- By the invariant: the members of a started step have finished, and no step that can start is left.
pub planned_ticks : PlannedTicks
planned_ticks s allow q w accepted st run v b =
    let invariant = run_keeps accepted run in
    let timely = invariant.timely in
    record { exactly = (λ h. (λ a k. timely.members_finished a v h (decider_member accepted a v b k), omega (arith, timely.at_planned v h, timely.state.starts_past v)), λ r. invariant.none_left v b r.0 r.1); at_planned = timely.at_planned v }

-- Part of the invariant.
pub run_states : RunStates
run_states s allow q w accepted st run = (run_keeps accepted run).timely.state

-- In a run neither 15 nor 14 applies.
pub run_answers : RunAnswers
run_answers s allow q w accepted st run = answers_for accepted (run_keeps accepted run)

-- From the rule of one call.
pub history_kept : HistoryKept
history_kept s allow q w accepted st run = history_for accepted (run_keeps accepted run)

-- A Begin sets all anew, and then sweeps.
pub begin_named : BeginNamed
begin_named = begin_names

-- By induction along start sets.
pub nothing_stuck : NothingStuck
nothing_stuck s allow q w accepted st run = waits_on accepted (run_keeps accepted run)

-- Our starts for durations that outlast the tick keep every link, and the ticks agree with them.
pub certificate : Certificate
certificate s allow q w accepted st run = certified accepted (run_keeps accepted run)

-- Computed, on sheets of the worked table.
pub runs_met : RunsMet
runs_met = examples
