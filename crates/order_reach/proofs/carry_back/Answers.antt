use native.Mathlib.Omega.{arith}
use mathlib.Core.Logic.{inl}
use Rattle.data_lists.proofs.Following.{down_split}
use Rattle.order_reach.proofs.Passing.{carried_none, carried_then}
use Rattle.order_reach.proofs.carry_back.Goals as goal

pub loop-k-init : goal.loop-k-init
loop-k-init c = carried_none c.told-rows (λ v x. omega (arith, x.0, x.1))

pub loop-k-preserved : goal.loop-k-preserved
loop-k-preserved c = carried_then (down_split _ _) c.loop-k.invariant c.visit-left.ensures

pub returns : goal.returns
returns c =
    let h = c.loop-k.invariant in
    carried_then (λ v x. inl (omega arith, x)) h (carried_none h.long (λ v x. x))
