-- `walk_cells::weight_past` meets its contract: where the weight is no less than the least, the difference is not below 0.
use mathlib.Core.Path.{sym}
use Rattle.walk_cells.proofs.Heights.{past_bits, past_none}
use Rattle.walk_cells.proofs.weight_past.Goals as goal

pub returns-then-c-x : goal.returns-then-c-x
returns-then-c-x c = sym (past_none c.ranges.c c.ranges.least.fits (rw c.from-x.ensures at c.if-c-x.true))

pub returns : goal.returns
returns c = rw c.from-x.ensures (past_bits c.ranges.c c.ranges.least.fits (rw c.from-x.ensures at c.if-c-x.false))
