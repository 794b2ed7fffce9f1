-- `plan_answer::answer` meets its contract: there is room for the edges of any sheet.
use Rattle.std.proofs.Common.{arith}
use Rattle.read_fields.proofs.Counts.{room_any}
use Rattle.plan_answer.proofs.answer.Goals as goal

pub answer_within-requires-2 : goal.answer_within-requires-2
answer_within-requires-2 c = (room_any c.args.s.now, omega arith, c.requires)
