-- `order_reach::carry` meets its contract.
use mathlib.Core.Logic.{inr}
use Rattle.order_reach.proofs.Passing.{carried_rest, carried_then}
use Rattle.order_reach.proofs.carry.Goals as goal

pub returns-then-left-eq0 : goal.returns-then-left-eq0
returns-then-left-eq0 c =
    let h = c.carry_on-left.ensures in
    carried_then (λ v x. inr x) h (carried_rest h.long c.if-left-eq0.true)

pub returns : goal.returns
returns c = carried_then (λ v x. inr x) c.carry_on-left.ensures c.carry_back.ensures
