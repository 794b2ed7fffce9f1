-- `c_planner::standplan_plan` meets its contract: the planner's answer, as a number.
use mathlib.Core.Path.{refl}
use mathlib.Core.Bool.{Bool}
use Rattle.definitions.specs.Answers.{planned}
use Rattle.c_planner.proofs.Codes.{written}
use Rattle.c_planner.proofs.standplan_plan.Goals as goal

pub returns : goal.returns
returns c =
    let r = c.plan.ensures in
    written (λ (b : Bool). planned c.args.sheet.now b c.args.table.now) c.args.allow (r.verdict, r.numbers) refl c.verdict_code.ensures
