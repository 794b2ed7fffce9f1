-- The map is there, and then what comes after it; or the bytes end before it.
use native.Mathlib.Omega.{arith}
use lib.Dec.{eqb}
use lib.ListN.{length}
use Prim.Native.Nat.{◌+◌, ◌<◌}
use Rattle.definitions.specs.Bytes.{operation}
use Rattle.read_steps.specs.Parts.{operation_mapped}
use Rattle.read_steps.proofs.Parts.{operation_none, operation_there}
use Rattle.read_steps.proofs.Taking.{reads_same}
use Rattle.read_steps.proofs.read_step.Goals as goal

pub returns-then-s-at : goal.returns-then-s-at
returns-then-s-at c = operation_none _ _ _ c.if-s-at.true

pub returns : goal.returns
returns c =
    let a = c.args in
    let first = eqb a.i 0 in
    let there : a.at < length a.s.now = omega arith in
    reads_same (operation first) (operation_mapped first _) a.s.now a.at (a.at + 1) a.i a.leasts.now c.read_mapped.new.leasts c.read_mapped.result (operation_there a.s.now a.at first there) c.read_mapped.ensures
