-- `walk_feasible::closes_above` meets its contract. Invariant: k edges back from x there is a walk from v to x, with its gains and losses.
use Rattle.walk_feasible.proofs.Circles.{Back}
use Rattle.walk_feasible.proofs.closes_above.Given as goal

abbrev pub invariant-loop-k : goal.invariant-loop-k
invariant-loop-k l = Back l.es l.x l.n l._k l.v l.gains l.losses
