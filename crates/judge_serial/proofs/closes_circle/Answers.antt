-- `judge_serial::closes_circle` meets its contract: the edges with their waits close a circle exactly if their steps have no order.
use mathlib.Core.Path.{ap, sym, ◌∙◌}
use mathlib.Core.Bool.{◌&&◌, ◌||◌}
use mathlib.Core.List.{List}
use Prim.Native.Nat.{ℕ}
use lib.Dec.{ltb}
use Rattle.definitions.specs.Basics.{any}
use Rattle.data_edges.specs.Words.{graph}
use Rattle.order_steps.specs.Orders.{precedes}
use Rattle.order_steps.proofs.Circles.{arranged_circle}
use Rattle.data_relations.specs.Rows.{row_bit}
use Rattle.theory.proofs.WaitLists.{serialized_shape}
use Rattle.judge_serial.proofs.Waited.{waited_predecessors}
use Rattle.judge_serial.proofs.closes_circle.Goals as goal

pub returns : goal.returns
returns c least shape waits =
    let rows = c.waited_rows-rows in
    sym (arranged_circle (waited_predecessors least c.requires shape rows.result rows.ensures.0 (λ v u. rows.ensures.1 v u ∙ ap (λ (m : List ℕ). ltb v c.args.n && (any (precedes v u) (graph c.args.es.now) || row_bit m v u)) waits)) (serialized_shape shape least) c.arrange.ensures)
