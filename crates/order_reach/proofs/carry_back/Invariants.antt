-- `order_reach::carry_back` meets its contract. Invariant: the steps from k on have handed on.
use Prim.Native.Nat.{◌≤◌, ◌<◌}
use Rattle.order_reach.specs.Pushes.{CarriedAll}
use Rattle.order_reach.proofs.Searching.{Own}
use Rattle.order_reach.proofs.carry_back.Given as goal

abbrev pub invariant-loop-k : goal.invariant-loop-k
invariant-loop-k l = CarriedAll (Own l.es.words.now) (λ v. (l.k ≤ v) × (v < l.n)) l.fn.rows l.rows l.marks l.left
