-- `plan_walks::add_source` meets its contract. Invariant: the rows below v have taken in step 0, and hold steps below n alone.
use Rattle.std.proofs.Common.{◌≡◌, length}
use Rattle.definitions.specs.Limits.{most_steps}
use Rattle.plan_walks.proofs.Sourcing.{Sourced}
use Rattle.plan_walks.proofs.add_source.Given as goal

abbrev pub invariant-loop-v : goal.invariant-loop-v
invariant-loop-v l = length l.fn.rows ≡ most_steps → Sourced l.n l.fn.rows l.v l.rows
