use Prim.Native.Nat.{◌<◌}
use native.Mathlib.Omega.{arith}
use lib.ListN.{length-take}
use lib.Seq.{get_or-take}
use Rattle.write_parts.proofs.Seeing.{steps_none, steps_more}
use Rattle.write_parts.proofs.scan_steps.Goals as goal

pub loop-i-init : goal.loop-i-init
loop-i-init c = steps_none

pub loop-i-preserved : goal.loop-i-preserved
loop-i-preserved c =
    let b : c.loop-i.i < c.args.n = omega (arith, length-take c.args.n c.args.steps) in
    steps_more c.args.steps _ c.loop-i.i (omega (arith, length-take c.args.n c.args.steps)) c.loop-i.invariant (rw get_or-take at c.see_step-seen.ensures)
