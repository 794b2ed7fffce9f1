-- `c_planner::standplan_starts` meets its contract: the planner's answer, as a number.
use mathlib.Core.Path.{refl}
use mathlib.Core.Bool.{Bool}
use Rattle.definitions.specs.Answers.{starts_answer}
use Rattle.c_planner.proofs.Codes.{written}
use Rattle.c_planner.proofs.standplan_starts.Goals as goal

pub returns : goal.returns
returns c =
    let r = c.starts.ensures in
    written (λ (b : Bool). starts_answer c.args.sheet.now b c.args.list.now c.args.out.now) c.args.allow (r.verdict, r.numbers) refl c.verdict_code.ensures
