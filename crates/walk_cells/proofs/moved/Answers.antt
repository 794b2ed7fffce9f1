-- `walk_cells::moved` meets its contract: the sum fits, and its height is that of the two.
use Rattle.walk_cells.proofs.Heights.{moved_fits, moved_height}
use Rattle.walk_cells.proofs.moved.Goals as goal

pub overflow_add-result : goal.overflow_add-result
overflow_add-result c = moved_fits c.requires.0 c.requires.1 c.ranges.c c.ranges.delta

pub returns : goal.returns
returns c = moved_height c.requires.0 c.requires.1 c.ranges.c c.ranges.delta
