-- `order_reach::push_returns` meets its contract. Invariant: the returns before the one that comes next have handed on.
use mathlib.Core.Path.{◌≡◌}
use Rattle.data_lists.proofs.Returning.{Returning}
use Rattle.order_reach.proofs.Returning.{HomingAll}
use Rattle.order_reach.proofs.push_returns.Given as goal

abbrev pub invariant-loop-k : goal.invariant-loop-k
invariant-loop-k l =
    (l.k-iterator.es ≡ l.es) × Returning (HomingAll l.es.words.now l.fn.rows l.rows l.marks) l.es.words.now l.k-iterator.at l.k-iterator.next
