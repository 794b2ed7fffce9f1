-- `judge_sheet::waits` meets its contract: what is answered with waits allowed.
use Rattle.std.proofs.Common.{◌∙◌}
use Rattle.plan_answer.proofs.Calls.{waits_verdict}
use Rattle.judge_sheet.proofs.waits.Goals as goal

pub returns : goal.returns
returns c = let a = c.answer-found.ensures in record { verdict = a.verdict ∙ waits_verdict _; maps = a.maps; count = a.count }
