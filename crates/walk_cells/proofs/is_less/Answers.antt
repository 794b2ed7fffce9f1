-- `walk_cells::is_less` meets its contract.
use Rattle.walk_cells.proofs.Heights.{less_back, not_less_back}
use Rattle.walk_cells.proofs.is_less.Goals as goal

pub returns : goal.returns
returns c = record { below = less_back c.ranges.old c.ranges.c; not_below = not_less_back c.ranges.old c.ranges.c }
