use native.Mathlib.Omega.{arith}
use lib.ListN.{length-set}
use Rattle.write_numbers.proofs.Decoded.{records_more}
use Rattle.write_numbers.proofs.records_from.Goals as goal

pub loop-k-preserved : goal.loop-k-preserved
loop-k-preserved c =
    (simp length-set c.loop-k.invariant.0, records_more c.args.numbers.now _ c.loop-k.k _ (omega (arith, c.loop-k.invariant.0, c.requires.0)) (omega (arith, c.requires.1)) c.loop-k.invariant.1 c.record_at.ensures)
