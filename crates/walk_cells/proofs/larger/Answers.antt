-- `walk_cells::larger` meets its contract.
use Rattle.walk_cells.proofs.Heights.{larger_back}
use Rattle.walk_cells.proofs.larger.Goals as goal

pub returns : goal.returns
returns c = rw c.max.ensures.value (larger_back c.ranges.old c.ranges.c)
