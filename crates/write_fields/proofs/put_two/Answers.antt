-- One byte, then the other.
use native.Mathlib.Omega.{arith}
use Rattle.data_buffers.proofs.Writing.{put_then}
use Rattle.write_fields.proofs.put_two.Goals as goal

pub returns : goal.returns
returns c =
    put_then c.put_byte-p.ensures c.put_byte.ensures (omega arith)
