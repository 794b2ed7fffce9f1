-- `walk_cells::of_edge` meets its contract.
use native.Mathlib.Omega.{arith}
use Rattle.walk_cells.specs.Cells.{value}
use Rattle.walk_cells.proofs.Heights.{value_bits}
use Rattle.walk_cells.proofs.of_edge.Goals as goal

pub overflow_cast-result : goal.overflow_cast-result
overflow_cast-result c = record { sfits = omega (arith, c.requires) }

pub returns-then-loss-gain : goal.returns-then-loss-gain
returns-then-loss-gain c = value_bits _ (omega (arith, c.requires))

pub returns-else-loss-gain : goal.returns-else-loss-gain
unfolding value
returns-else-loss-gain c = omega arith
