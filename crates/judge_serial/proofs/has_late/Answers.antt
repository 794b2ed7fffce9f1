use mathlib.Core.Path.{◌∙◌}
use Rattle.judge_serial.proofs.Late.{seen_all, seen_more, seen_none}
use Rattle.judge_serial.proofs.has_late.Goals as goal

pub loop-w-init : goal.loop-w-init
loop-w-init c = seen_none c.args.es.now

pub loop-w-preserved : goal.loop-w-preserved
loop-w-preserved c = seen_more c.args.es.now c.loop-w.w-index _ _ c.loop-w-test.true c.loop-w.invariant c.union-seen.ensures

pub returns : goal.returns
returns c = c.is_late.ensures ∙ seen_all _ _ _ c.loop-w-test.false c.loop-w.invariant
