-- `walk_cells::clean` meets its contract.
use mathlib.Core.Path.{refl, sym}
use mathlib.Core.Logic.{inl, inr}
use mir.Facts.{to_z-of_z}
use Rattle.walk_cells.specs.Cells.{Clear, value}
use Rattle.walk_cells.proofs.Heights.{below_back, not_below_back}
use Rattle.walk_cells.proofs.clean.Goals as goal

pub returns-then-c-lt0 : goal.returns-then-c-lt0
unfolding Clear value
returns-then-c-lt0 c = (inl refl, sym (below_back c.ranges.c c.if-c-lt0.true))

pub returns-else-c-lt0 : goal.returns-else-c-lt0
unfolding Clear
returns-else-c-lt0 c = rw (to_z-of_z c.ranges.c) (inr (not_below_back c.ranges.c c.if-c-lt0.false), refl)
