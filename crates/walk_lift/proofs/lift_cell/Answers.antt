-- `walk_lift::lift_cell` meets its contract: the cell becomes the larger of itself and the sum, and where it does not change the row stays.
use mathlib.Core.List.{[]}
use mathlib.Core.Path.{◌≡◌, sym, ◌∙◌}
use native.Mathlib.Omega.{arith}
use lib.IntN.{pos}
use lib.ListN.{get_or}
use mir.Facts.{to_z-of_z}
use mir.Syntax.{w32}
use mir.Val.{SFits}
use borrow.Author.Rules.{sfits_of}
use Rattle.walk_cells.specs.Tables.{cell_at}
use Rattle.walk_cells.proofs.Heights.{risen_back}
use Rattle.walk_cells.proofs.Tables.{cell_in}
use Rattle.walk_lift.proofs.Lifting.{lifted_cell, still_cell}
use Rattle.walk_lift.proofs.lift_cell.Goals as goal

-- The cell that is handed on, read where the row has it.
pub moved-c-requires : goal.moved-c-requires
moved-c-requires c =
    let p = c.requires in
    rw (to_z-of_z (sfits_of c.moved-arg-1.given), to_z-of_z c.ranges.delta, cell_in c.args.row.now c.args.k (omega (arith, p.long, p.target.few)))
    (p.movable, p.small)

pub returns : goal.returns
returns c =
    let a = c.args in
    let p = c.requires.target in
    let handed_in = cell_in a.row.now a.k (omega (arith, c.requires.long, p.few)) in
    let old_in : get_or (get_or a.d.now a.to []) a.k (pos 0) ≡ cell_at a.d.now a.to a.k = cell_in (get_or a.d.now a.to []) a.k (omega (arith, p.square.cells a.to p.row, p.few)) in
    let handed_fits : SFits w32 (get_or a.row.now a.k (pos 0)) = sfits_of c.moved-arg-1.given in
    let old_fits : SFits w32 (get_or (get_or a.d.now a.to []) a.k (pos 0)) = sfits_of c.old-1.given in
    let rises = risen_back old_fits handed_fits c.ranges.delta (sfits_of c.moved-c.type_inv) (sfits_of c.larger-new.type_inv) c.moved-c.ensures c.larger-new.ensures in (
      lifted_cell a.to a.k a.delta _ a.row.now a.d.now p (rw (old_in, handed_in) at rises),
      λ z. still_cell a.to a.k a.delta _ a.row.now a.d.now p (c.change.ensures (sym (to_z-of_z {w = w32} (sfits_of c.change.type_inv)) ∙ z) ∙ to_z-of_z old_fits ∙ old_in),
    )
