-- `walk_cells::sum_reaches` meets its contract.
use Rattle.walk_cells.proofs.Heights.{wide_test}
use Rattle.walk_cells.proofs.sum_reaches.Goals as goal

pub returns : goal.returns
returns c = rw (c.from.ensures, c.from-2.ensures, c.from-3.ensures) (wide_test c.ranges.x c.ranges.y c.ranges.z)
