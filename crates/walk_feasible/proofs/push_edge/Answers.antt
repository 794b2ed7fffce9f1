-- `walk_feasible::push_edge` meets its contract: a cell that is smaller is stored to and gets a mark, and one that is not stays.
use Prim.Native.Nat.{◌≤◌, ◌<◌}
use native.Mathlib.Omega.{arith}
use lib.IntN.{pos}
use lib.ListN.{get_or}
use mir.Syntax.{w32}
use mir.Val.{SFits}
use borrow.Author.Rules.{sfits_of}
use Rattle.data_edges.specs.Words.{unpack}
use Rattle.walk_cells.specs.Cells.{Movable, Small, height}
use Rattle.walk_cells.proofs.Heights.{back}
use Rattle.walk_feasible.proofs.Pushing.{back_has, height_back, moved_weighs, word_kept, word_stored}
use Rattle.walk_feasible.proofs.push_edge.Goals as goal

pub moved-c-requires : goal.moved-c-requires
moved-c-requires c = (back_has Movable c.ranges.own c.requires, back_has Small (sfits_of c.delta-by.type_inv) c.delta-by.ensures.1)

pub returns-then-is_less : goal.returns-then-is_less
returns-then-is_less c =
    let a = c.args in
    let m = back c.moved-c.result in
    let delta = rw (c.edge_gain.ensures.0, c.edge_loss.ensures.0) at c.delta-by.ensures.0 in
    let weighs = moved_weighs c.ranges.own (sfits_of c.delta-by.type_inv) (sfits_of c.moved-c.type_inv) delta c.moved-c.ensures in
    let to = c.edge_to-to.ensures in
    let fits : SFits w32 (get_or a.row.now c.edge_to-to.result (pos 0)) = sfits_of c.is_less-arg-1.given in
    let above : height (get_or a.row.now c.edge_to-to.result (pos 0)) < height m = omega (arith, c.is_less.ensures.below c.if-is_less.true, height_back fits) in
    word_stored (unpack a.w) a.row.now a.via.now a.marks (height a.own) m c.told-row c.told-via to.0 weighs _ _ to.1 above c.insert.ensures

pub returns : goal.returns
returns c =
    let a = c.args in
    let m = back c.moved-c.result in
    let delta = rw (c.edge_gain.ensures.0, c.edge_loss.ensures.0) at c.delta-by.ensures.0 in
    let weighs = moved_weighs c.ranges.own (sfits_of c.delta-by.type_inv) (sfits_of c.moved-c.type_inv) delta c.moved-c.ensures in
    let fits : SFits w32 (get_or a.row.now c.edge_to-to.result (pos 0)) = sfits_of c.is_less-arg-1.given in
    let not_above : height m ≤ height (get_or a.row.now c.edge_to-to.result (pos 0)) = omega (arith, c.is_less.ensures.not_below c.if-is_less.false, height_back fits) in
    word_kept (unpack a.w) a.row.now a.via.now a.marks (height a.own) m c.told-row c.told-via c.edge_to-to.ensures.0 weighs not_above
