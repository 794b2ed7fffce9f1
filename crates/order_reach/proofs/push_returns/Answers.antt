use mathlib.Core.Path.{◌∙◌}
use native.Mathlib.Omega.{arith}
use Rattle.data_lists.proofs.Returning.{returning_given, returning_start}
use Rattle.order_reach.proofs.Returning.{homing_end, homing_pass, homing_start, homing_turn}
use Rattle.order_reach.proofs.push_returns.Goals as goal

pub loop-k-init : goal.loop-k-init
loop-k-init c =
    let h = c.returns-k-items.ensures in
    let first = rw h.1 at h.2 in
    rw c.into_iter-k-iterator.ensures.into_iter_gives (h.0, rw h.1 (returning_start c.args.es.listed (homing_pass _ _ _ 0) first (homing_start _ _ c.told-rows)))

pub loop-k-preserved : goal.loop-k-preserved
loop-k-preserved c =
    let own = c.loop-k.invariant.0 in
    let step = c.in-Some.ensures.steps in
    let given = rw own at step.0 in
    (step.1 ∙ own, returning_given c.args.es.listed (homing_pass _ _ _ _) given (λ S. homing_turn _ _ _ _ _ _ _ given.inside S c.push_return-marks.ensures) c.loop-k.invariant.1)

pub returns : goal.returns
returns c = homing_end _ _ _ _ _ (omega arith) (c.loop-k.invariant.1.done c.in-None.ensures.steps.0)
