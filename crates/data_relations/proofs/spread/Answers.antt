-- A turn puts v into the row of the member that it takes out.
use Rattle.data_relations.proofs.Transposing.{spreading_all}
use Rattle.data_relations.proofs.spread.Goals as goal

pub returns : goal.returns
returns c = spreading_all _ _ c.loop-k.k-iterator.left _ _ c.in-None.ensures.steps.0 c.loop-k.invariant
