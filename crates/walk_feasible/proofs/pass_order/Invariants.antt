-- `walk_feasible::pass_order` meets its contract. Invariant: as many visits have been.
use Rattle.definitions.specs.Links.{members}
use Rattle.data_lists.specs.Graphs.{edges_in}
use Rattle.walk_feasible.specs.Search.{Passed}
use Rattle.walk_feasible.proofs.pass_order.Given as goal

abbrev pub invariant-loop-x : goal.invariant-loop-x
invariant-loop-x l = Passed (members (edges_in l.es)) (λ v. ⊥) l.x-index l.fn.row l.row l.via l.marks l.m
