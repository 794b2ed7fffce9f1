-- `order_reach::carry_on` meets its contract.
use Rattle.order_reach.specs.Pushes.{CarriedAll}
use Rattle.order_reach.proofs.Searching.{Own}
use Rattle.order_reach.proofs.carry_on.Given as goal

abbrev pub invariant-loop-x : goal.invariant-loop-x
invariant-loop-x l = CarriedAll (Own l.es.words.now) (λ v. ⊥) l.fn.rows l.rows l.marks l.left
