-- The steps of the order are placed, and where none went, each that was tried has one right before it that is left.
use Rattle.order_steps.proofs.Placing.{Passing}
use Rattle.order_steps.proofs.pass.Given as goal

abbrev pub invariant-loop-u : goal.invariant-loop-u
invariant-loop-u l = Passing l.n l.rows l.order l.initial.after.left l.after.left l.initial.after.placed l.after.placed l.u-iterator.left
