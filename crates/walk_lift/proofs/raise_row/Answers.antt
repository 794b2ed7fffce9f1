-- `walk_lift::raise_row` meets its contract: a row that has its mark may change, and one that changes gets it.
use mathlib.Core.Path.{sym, ◌∙◌}
use mir.Facts.{to_z-of_z}
use Rattle.walk_lift.proofs.Lifting.{raised_marked, raised_noting}
use Rattle.walk_lift.proofs.raise_row.Goals as goal

pub returns-then-has : goal.returns-then-has
returns-then-has c =
    raised_marked (sym c.has.ensures ∙ c.if-has.true) (rw (to_z-of_z c.ranges.delta) at c.lift.ensures)

pub returns : goal.returns
returns c =
    raised_noting _ c.insert_if.ensures (rw (to_z-of_z c.ranges.delta) at c.lift_noting-grew.ensures.0) c.lift_noting-grew.ensures.1
