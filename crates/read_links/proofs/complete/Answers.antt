-- The smallest step that is left is the next, and there is room for its edge.
use Rattle.std.proofs.Common.{rules, ◌≡◌}
use Rattle.read_links.proofs.Completing.{completing_none, completing_more, completing_room, completing_all}
use Rattle.read_links.proofs.complete.Goals as goal

pub loop-v-init : goal.loop-v-init
loop-v-init c =
    let e : c.into_iter-v-iterator.result.left ≡ c.loose_steps-loose.result = search rules in
    rw e (completing_none _ _ _ c.loose_steps-loose.ensures _ _ _)

pub push-next-requires : goal.push-next-requires
push-next-requires c = completing_room _ _ _ c.loose_steps-loose.ensures _ _ _ _ _ _ c.loop-v.invariant _ c.in-Some.ensures.steps.0 c.requires

pub loop-v-preserved : goal.loop-v-preserved
loop-v-preserved c =
    let step = c.in-Some.ensures.steps in
    completing_more _ _ _ c.loose_steps-loose.ensures _ _ _ _ _ _ c.loop-v.invariant _ _ step.0 step.1 _ _ _ c.sequencing_word-w.ensures c.push-next.ensures

pub returns : goal.returns
returns c = completing_all _ _ _ c.loose_steps-loose.ensures _ _ _ _ _ _ c.loop-v.invariant c.in-None.ensures.steps.0 c.requires
