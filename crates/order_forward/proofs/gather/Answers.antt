-- A turn takes in the row of the step that it takes out.
use Rattle.std.proofs.Common.{◌∙◌}
use Rattle.order_forward.proofs.Drawing.{gather_all, gather_more}
use Rattle.order_forward.proofs.gather.Goals as goal

pub loop-u-preserved : goal.loop-u-preserved
loop-u-preserved c a =
    let low = c.in-Some.ensures.steps.0 in
    gather_more c.args.rows.now _ _ _ _ c.in-Some.u a low.below low.member c.in-Some.ensures.steps.1 c.union-all.ensures
    ∙ c.loop-u.invariant a

pub returns : goal.returns
returns c a = gather_all c.args.rows.now _ c.loop-u.u-iterator.left a c.in-None.ensures.steps.0 ∙ c.loop-u.invariant a
