-- The invariant: the largest term so far, or one of the members left, is what is asked for.
use Rattle.std.proofs.Common.{◌≡◌}
use Rattle.definitions.specs.Basics.{largest, test_bit}
use Rattle.plan_deciding.specs.Working.{cells_in}
use Rattle.plan_starts.specs.Times.{term}
use Rattle.plan_starts.proofs.Laws.{latest_of}
use Rattle.plan_starts.proofs.latest.Given as goal

abbrev pub invariant-loop-a : goal.invariant-loop-a
invariant-loop-a l = latest_of (cells_in l.t) l.t.leasts.now l.list l.old l.v l.n l.most l.a-iterator.left ≡ largest (test_bit l.members) (term (cells_in l.t) l.t.leasts.now l.list l.old l.v) l.n
