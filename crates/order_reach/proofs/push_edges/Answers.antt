use mathlib.Core.Path.{◌∙◌}
use Rattle.data_lists.proofs.Following.{following_end, following_given, following_start, given_leaves}
use Rattle.order_reach.proofs.Pushing.{MayUse, handed_more, handed_none, handed_same}
use Rattle.order_reach.proofs.push_edges.Goals as goal

pub loop-k-init : goal.loop-k-init
loop-k-init c =
    let h = c.out_of-k-items.ensures in
    rw c.into_iter-k-iterator.ensures.into_iter_gives (h.0, following_start h.1 (handed_none MayUse _ _ _ _ c.told-rows))

pub push_word-left-requires : goal.push_word-left-requires
push_word-left-requires c =
    let h = c.loop-k.invariant in
    let leaves = given_leaves (rw h.0 at c.in-Some.ensures.steps.0) h.1 in
    rw leaves c.insert_if-all.ensures

pub loop-k-preserved : goal.loop-k-preserved
loop-k-preserved c =
    let own = c.loop-k.invariant.0 in
    let step = c.in-Some.ensures.steps in
    (step.1 ∙ own, following_given (rw own at step.0) (handed_more MayUse _ _ _ _ c.push_word-left.ensures) c.loop-k.invariant.1)

pub returns : goal.returns
returns c = following_end c.in-None.ensures.steps.0 (handed_same MayUse _ _ _ _) c.loop-k.invariant.1
