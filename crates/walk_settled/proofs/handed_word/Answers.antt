-- `walk_settled::handed_word` meets its contract.
use Rattle.data_edges.specs.Words.{unpack}
use Rattle.walk_cells.specs.Tables.{said}
use Rattle.walk_settled.proofs.Handing.{fields_handed}
use Rattle.walk_settled.proofs.handed_word.Goals as goal

pub returns : goal.returns
returns c =
    fields_handed
    (said c.args.d.now)
    (unpack c.args.w)
    c.edge_from-from.ensures.0
    c.edge_to-to.ensures.0
    c.edge_gain-gain.ensures.0
    c.edge_loss-loss.ensures.0
    c.handed.ensures
