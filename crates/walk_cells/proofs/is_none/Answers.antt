-- `walk_cells::is_none` meets its contract.
use Rattle.walk_cells.proofs.Heights.{none_test}
use Rattle.walk_cells.proofs.is_none.Goals as goal

pub returns : goal.returns
returns c = none_test c.ranges.c
