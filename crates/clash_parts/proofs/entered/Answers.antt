use native.Mathlib.Omega.{arith}
use Rattle.clash_parts.proofs.Entering.{entering_none, entering_more, entering_all}
use Rattle.clash_parts.proofs.entered.Goals as goal

pub loop-w-init : goal.loop-w-init
loop-w-init c = entering_none _

pub loop-w-preserved : goal.loop-w-preserved
loop-w-preserved c =
    entering_more _ _ c.loop-w.w-index c.loop-w.invariant _ _ _ (omega arith) c.edge_to.ensures.0 c.is_back.ensures c.insert_if-m.ensures

pub returns : goal.returns
returns c = entering_all _ _ _ c.loop-w.invariant (omega arith)
