-- `walk_cells::weight` meets its contract.
use native.Mathlib.Omega.{arith}
use Rattle.walk_cells.proofs.Heights.{below_back, not_below_back, weight_bits, weight_fits}
use Rattle.walk_cells.proofs.weight.Goals as goal

pub returns-then-c-lt0 : goal.returns-then-c-lt0
returns-then-c-lt0 c = omega (arith, below_back c.ranges.c c.if-c-lt0.true)

pub overflow_cast-result : goal.overflow_cast-result
overflow_cast-result c = weight_fits c.ranges.c (not_below_back c.ranges.c c.if-c-lt0.false)

pub returns : goal.returns
returns c = weight_bits c.ranges.c (not_below_back c.ranges.c c.if-c-lt0.false)
