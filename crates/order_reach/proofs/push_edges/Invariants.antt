-- `order_reach::push_edges` meets its contract. Invariant: the edges of u behind the one that comes next have handed on.
use mathlib.Core.Path.{◌≡◌}
use Rattle.order_reach.proofs.Pushing.{Listing, MayUse}
use Rattle.order_reach.proofs.push_edges.Given as goal

abbrev pub invariant-loop-k : goal.invariant-loop-k
invariant-loop-k l =
    (l.k-iterator.es ≡ l.es) × Listing MayUse l.es.words.now l.u l.m l.fn.rows l.rows l.marks l.left l.k-iterator.next
