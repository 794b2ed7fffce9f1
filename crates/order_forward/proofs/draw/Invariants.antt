-- The rows of the first k places of the order are done.
use Rattle.order_steps.specs.Orders.{Ordered}
use Rattle.order_forward.proofs.Drawing.{Drawing}
use Rattle.order_forward.proofs.draw.Given as goal

abbrev pub invariant-loop-k : goal.invariant-loop-k
invariant-loop-k l = (O : Ordered l.n l.before l.order) × Drawing O l.initial.rows l.k l.rows
