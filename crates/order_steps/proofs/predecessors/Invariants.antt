-- `order_steps::predecessors` meets its contract. Invariant: both rows hold what the words passed over say.
use Prim.Native.Nat.{◌≤◌}
use lib.ListN.{length, take}
use Rattle.data_edges.specs.Words.{graph}
use Rattle.order_steps.specs.Orders.{Counted, Predecessors}
use Rattle.order_steps.proofs.predecessors.Given as goal

abbrev pub invariant-loop-w : goal.invariant-loop-w
invariant-loop-w l = (l.w-index ≤ length l.es) × Predecessors (graph (take l.w-index l.es)) l.before × Counted (graph (take l.w-index l.es)) l.counted
