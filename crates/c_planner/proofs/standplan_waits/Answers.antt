-- On a refusal nothing is stored; on acceptance what judging lists is.
use native.Mathlib.Omega.{arith}
use Rattle.c_planner.proofs.Codes.{lists_as_lent, lists_stored}
use Rattle.c_planner.proofs.standplan_waits.Goals as goal

pub returns-then-code-ge-REFUSALS_PAST : goal.returns-then-code-ge-REFUSALS_PAST
returns-then-code-ge-REFUSALS_PAST c =
    lists_as_lent c.args.maps.now c.args.count.now c.waits-found.ensures c.verdict_code-code.ensures (omega arith)

pub returns : goal.returns
returns c =
    lists_stored c.args.maps.now c.args.count.now c.waits-found.ensures c.verdict_code-code.ensures (omega arith)
