use mathlib.Core.Path.{◌∙◌}
use lib.IntN.{pos}
use lib.ListN.{get_or}
use mir.Syntax.{w32}
use mir.Val.{SFits}
use borrow.Author.Rules.{sfits_of}
use Rattle.walk_cells.specs.Cells.{Movable}
use Rattle.data_lists.proofs.Following.{following_end, following_given, following_start}
use Rattle.walk_feasible.proofs.Pushing.{back_has, height_back, pushed_as, pushed_more, pushed_none, pushed_own, room_movable}
use Rattle.walk_feasible.proofs.push_step.Goals as goal

pub loop-k-init : goal.loop-k-init
loop-k-init c =
    let h = c.out_of-k-items.ensures in
    rw c.into_iter-k-iterator.ensures.into_iter_gives (h.0, following_start h.1 (pushed_none c.told-row c.told-via))

pub push_edge-m-requires : goal.push_edge-m-requires
push_edge-m-requires c = back_has Movable (sfits_of c.own-1.given) (room_movable c.requires.1 _)

pub loop-k-preserved : goal.loop-k-preserved
loop-k-preserved c =
    let fits : SFits w32 (get_or c.args.row.now c.args.u (pos 0)) = sfits_of c.own-1.given in
    let own = c.loop-k.invariant.0 in
    let step = c.in-Some.ensures.steps in
    (step.1 ∙ own, following_given (rw own at step.0) (pushed_more (pushed_own (height_back fits) c.push_edge-m.ensures)) c.loop-k.invariant.1)

pub returns : goal.returns
returns c = following_end c.in-None.ensures.steps.0 pushed_as c.loop-k.invariant.1
