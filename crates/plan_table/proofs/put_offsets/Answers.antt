-- A turn puts in the offset of the smallest member left; at the end none is left.
use Rattle.std.proofs.Common.{◌≡◌, arith}
use Rattle.plan_table.proofs.Laws.{none_put, one_put, all_put}
use Rattle.plan_table.proofs.put_offsets.Goals as goal

pub loop-a-init : goal.loop-a-init
loop-a-init c =
    let all : c.into_iter-a-iterator.result.left ≡ c.both.result = cc in
    none_put _ _ (omega arith) c.below-first.ensures (rw all c.both.ensures)

pub loop-a-preserved : goal.loop-a-preserved
loop-a-preserved c =
    one_put _ c.in-Some.ensures.steps.0.member c.offset_at.ensures c.in-Some.ensures.steps.1 c.loop-a.invariant

pub returns : goal.returns
returns c = all_put c.in-None.ensures.steps.0 c.loop-a.invariant
