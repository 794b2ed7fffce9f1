-- `walk_cells::is_walk` meets its contract.
use Rattle.walk_cells.proofs.Heights.{walk_test}
use Rattle.walk_cells.proofs.is_walk.Goals as goal

pub returns : goal.returns
returns c = walk_test c.ranges.c
