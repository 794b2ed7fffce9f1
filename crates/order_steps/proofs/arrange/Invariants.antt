-- The steps of the order are placed. What falls is the number of those that are not.
use Prim.Native.Nat.{◌-◌}
use Rattle.order_steps.specs.Orders.{Placing}
use Rattle.order_steps.proofs.arrange.Given as goal

abbrev pub invariant-loop-front : goal.invariant-loop-front
invariant-loop-front l = Placing l.n l.rows l.order l.front.left l.front.placed

abbrev pub decreases-loop-front : goal.decreases-loop-front
decreases-loop-front l = l.n - l.front.placed
