-- `c_planner::standplan_judge` meets its contract: the planner's answer, as a number.
use mathlib.Core.Path.{refl}
use mathlib.Core.Bool.{Bool}
use Rattle.definitions.specs.Answers.{judged}
use Rattle.c_planner.proofs.Codes.{coded}
use Rattle.c_planner.proofs.standplan_judge.Goals as goal

pub returns : goal.returns
returns c =
    coded (λ (b : Bool). judged c.args.sheet.now b) c.args.allow c.judge.ensures.verdict refl c.verdict_code.ensures
