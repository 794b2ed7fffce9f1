use native.Mathlib.Omega.{arith}
use lib.ListN.{length-set}
use Rattle.write_numbers.proofs.Decoded.{steps_more}
use Rattle.write_numbers.proofs.steps_from.Goals as goal

pub loop-k-preserved : goal.loop-k-preserved
loop-k-preserved c =
    (simp length-set c.loop-k.invariant.0, steps_more c.args.numbers.now _ c.loop-k.k _ (omega (arith, c.loop-k.invariant.0, c.requires.0)) (omega (arith, c.requires.1)) c.loop-k.invariant.1 c.step_at.ensures)
