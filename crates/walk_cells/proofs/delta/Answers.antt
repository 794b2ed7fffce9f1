-- `walk_cells::delta` meets its contract: the difference of two numbers below the limit is small.
use Rattle.walk_cells.proofs.Heights.{difference_back}
use Rattle.walk_cells.proofs.delta.Goals as goal

pub returns : goal.returns
returns c = difference_back c.requires.0 c.requires.1
