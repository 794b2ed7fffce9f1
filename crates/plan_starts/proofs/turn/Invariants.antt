-- The invariant: the first v numbers are the next row's, the others 0.
use Rattle.std.proofs.Common.{◌≡◌, length}
use Rattle.laws.proofs.Fronts.{laid}
use Rattle.plan_deciding.specs.Working.{cells_in}
use Rattle.plan_starts.specs.Times.{start_at}
use Rattle.plan_starts.proofs.turn.Given as goal

abbrev pub invariant-loop-v : goal.invariant-loop-v
invariant-loop-v l = (length l.row ≡ 64) × (l.row ≡ laid (start_at (cells_in l.t) l.t.leasts.now l.t.sets.now l.n l.list l.old) l.v l.initial.row)
