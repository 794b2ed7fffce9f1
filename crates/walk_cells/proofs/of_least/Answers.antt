-- `walk_cells::of_least` meets its contract.
use native.Mathlib.Omega.{arith}
use Rattle.walk_cells.proofs.Heights.{value_bits}
use Rattle.walk_cells.proofs.of_least.Goals as goal

pub returns : goal.returns
returns c = let b = c.ranges.least.fits in rw c.from.ensures (value_bits c.args.least (omega arith), omega arith)
