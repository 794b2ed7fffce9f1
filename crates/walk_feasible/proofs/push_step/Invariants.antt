-- `walk_feasible::push_step` meets its contract. Invariant: the edges of u behind the one that comes next have handed on.
use mathlib.Core.Path.{◌≡◌}
use Rattle.walk_feasible.specs.Search.{level}
use Rattle.walk_feasible.proofs.Pushing.{Listing}
use Rattle.walk_feasible.proofs.push_step.Given as goal

abbrev pub invariant-loop-k : goal.invariant-loop-k
invariant-loop-k l =
    (l.k-iterator.es ≡ l.es) × Listing l.es.words.now l.u (level l.fn.row l.u) l.fn.row l.row l.via l.marks l.m l.k-iterator.next
