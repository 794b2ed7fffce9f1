use mathlib.Core.Logic.{inl}
use Rattle.order_reach.proofs.Passing.{carried_none, carried_then}
use Rattle.order_reach.proofs.carry_on.Goals as goal

pub loop-x-init : goal.loop-x-init
loop-x-init c = carried_none c.told-rows (λ v x. x)

pub loop-x-preserved : goal.loop-x-preserved
loop-x-preserved c = carried_then (λ v x. inl x) c.loop-x.invariant c.visit-left.ensures
