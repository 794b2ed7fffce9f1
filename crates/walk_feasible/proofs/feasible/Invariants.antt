-- `walk_feasible::feasible` meets its contract. Invariant: k passes have been, from weight 0 everywhere.
use Rattle.walk_feasible.proofs.Searching.{Searched}
use Rattle.walk_feasible.proofs.feasible.Given as goal

abbrev pub invariant-loop-k : goal.invariant-loop-k
invariant-loop-k l = Searched l.es.words.now l.n l._k l.row l.via l.marks
