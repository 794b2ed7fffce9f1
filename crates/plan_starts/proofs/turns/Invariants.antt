-- The invariant: the row after k turns. A turn that changes nothing ends them all.
use Rattle.std.proofs.Common.{◌≡◌}
use Rattle.plan_deciding.specs.Working.{cells_in}
use Rattle.plan_starts.specs.Times.{row_after}
use Rattle.plan_starts.proofs.turns.Given as goal

abbrev pub invariant-loop-k : goal.invariant-loop-k
invariant-loop-k l = l.row ≡ row_after (cells_in l.t) l.t.leasts.now l.t.sets.now l.n l.list l.k
