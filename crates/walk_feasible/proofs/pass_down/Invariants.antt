-- `walk_feasible::pass_down` meets its contract. Invariant: those that are left have marks and are below the last step that was visited; the others have handed on. What falls is that step.
use Rattle.definitions.specs.Links.{members}
use Rattle.data_lists.specs.Graphs.{edges_in}
use Rattle.walk_feasible.proofs.Passing.{Falling}
use Rattle.walk_feasible.proofs.pass_down.Given as goal

abbrev pub invariant-loop-left : goal.invariant-loop-left
invariant-loop-left l = Falling (members (edges_in l.es)) l.fn.row l.row l.via l.marks l.m l.left l.last

abbrev pub decreases-loop-left : goal.decreases-loop-left
decreases-loop-left l = l.last
