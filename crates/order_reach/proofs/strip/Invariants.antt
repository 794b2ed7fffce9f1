-- `order_reach::strip` meets its contract.
use Rattle.data_relations.proofs.Gathering.{Made}
use Rattle.order_reach.proofs.Returning.{stripped}
use Rattle.order_reach.proofs.strip.Given as goal

abbrev pub invariant-loop-v : goal.invariant-loop-v
invariant-loop-v l = Made (stripped l.sets) l.v l.rows
