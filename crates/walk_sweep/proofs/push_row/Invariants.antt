-- `walk_sweep::push_row` meets its contract. Invariant: the edges of u behind the one that comes next have handed on.
use mathlib.Core.Path.{◌≡◌}
use Rattle.walk_lift.specs.Lifts.{lent}
use Rattle.walk_sweep.proofs.Handing.{Listing}
use Rattle.walk_sweep.proofs.push_row.Given as goal

abbrev pub invariant-loop-k : goal.invariant-loop-k
invariant-loop-k l =
    (l.k-iterator.es ≡ l.es) × Listing l.es.words.now l.number l.u (lent l.row l.width) l.fn.d l.d l.marks l.left l.k-iterator.next
