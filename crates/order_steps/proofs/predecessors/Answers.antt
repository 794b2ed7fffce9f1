use borrow.Author.Rules.{rules}
use native.Mathlib.Omega.{arith}
use mathlib.Core.Path.{ap}
use mathlib.Core.Bool.{not}
use Prim.Native.Nat.{◌<◌}
use lib.ListN.{length}
use Rattle.data_edges.specs.Words.{unpack, graph}
use Rattle.data_relations.proofs.Gathering.{pass_none, relate_more}
use Rattle.order_steps.specs.Orders.{counts_into, precedes}
use Rattle.order_steps.proofs.predecessors.Goals as goal

pub loop-w-init : goal.loop-w-init
unfolding graph
loop-w-init c =
    (omega arith, rw c.requires.0 (pass_none precedes unpack c.args.es.now), rw c.requires.1 (pass_none counts_into unpack c.args.es.now))

pub loop-w-preserved : goal.loop-w-preserved
unfolding graph
loop-w-preserved c =
    let es = c.args.es.now in
    let to = c.edge_to-v.ensures in
    let from = c.edge_from-u.ensures in
    let inside : c.loop-w.w-index < length es = search rules in (
      omega arith,
      relate_more (λ e. e.to) (λ e. e.from) (λ e. not e.back) unpack es c.loop-w.w-index 0 c.insert_if.result inside c.loop-w.invariant.1 to.0 to.1 from.0 (ap not c.is_back-forward.ensures) c.insert_if.ensures,
      relate_more (λ e. e.to) (λ e. e.from) (λ e. e.counted) unpack es c.loop-w.w-index 0 c.insert_if-in-loop-w.result inside c.loop-w.invariant.2 to.0 to.1 from.0 c.is_counted-counts.ensures c.insert_if-in-loop-w.ensures,
    )
