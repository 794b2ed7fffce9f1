-- The cell is stored to, or says as much already.
use Rattle.std.proofs.Common.{rules, arith, []}
use mir.Facts.{to_z-of_z}
use mir.Syntax.{w32}
use mir.Val.{SFits}
use lib.IntN.{pos}
use lib.ListN.{get_or}
use Rattle.walk_cells.specs.Cells.{Compared}
use Rattle.walk_cells.specs.Tables.{cell_at}
use Rattle.walk_cells.proofs.Heights.{value_height}
use Rattle.walk_cells.proofs.Tables.{cell_in}
use Rattle.walk_seed.proofs.Seeding.{raised_kept, raised_stored}
use Rattle.walk_seed.proofs.raise.Goals.{After-is_less}
use Rattle.walk_seed.proofs.raise.Goals as goal

-- What the test says of the cell that was there and the new one: both fit, and the table has the first.
tells : (c : After-is_less) → let a = c.args in Compared (cell_at a.d.now a.v a.k) a.c c.is_less.result
tells c =
    let a = c.args in
    let inside = cell_in (get_or a.d.now a.v []) a.k (omega (arith, c.requires.square.cells a.v c.requires.row, c.requires.few)) in
    let fits : SFits w32 (get_or (get_or a.d.now a.v []) a.k (pos 0)) = search rules in
    rw (to_z-of_z fits, to_z-of_z c.ranges.c, inside) at c.is_less.ensures

pub returns-then-is_less : goal.returns-then-is_less
returns-then-is_less c =
    let a = c.args in
    let old = cell_at a.d.now a.v a.k in
    rw (to_z-of_z c.ranges.c) (raised_stored a.v a.k a.c a.d.now c.requires.square c.requires.row (omega (arith, c.requires.few)) (omega (arith, (tells c.before).below c.if-is_less.true, value_height old, value_height a.c)))

pub returns-else-is_less : goal.returns-else-is_less
returns-else-is_less c =
    let a = c.args in
    let old = cell_at a.d.now a.v a.k in
    raised_kept a.v a.k a.c a.d.now c.requires.square (omega (arith, (tells c.before).not_below c.if-is_less.false, value_height old, value_height a.c))
