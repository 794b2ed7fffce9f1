-- `order_reach::push_return` meets its contract: a return hands on what its start has.
use Rattle.data_edges.specs.Words.{unpack}
use Rattle.order_reach.proofs.Returning.{returned_by}
use Rattle.order_reach.proofs.push_return.Goals as goal

pub returns : goal.returns
returns c =
    returned_by (unpack c.args.w) _ _ _ _ _ _ _ c.edge_from-from.ensures.0 c.edge_to-to.ensures.0 c.requires c.usable_by-h.ensures c.join.ensures
