-- The list of the returns begins behind those of the steps.
use Rattle.data_lists.proofs.Returning.{return_start}
use Rattle.data_lists.proofs.Edges.returns.Goals as goal

pub invariant_of-result : goal.invariant_of-result
invariant_of-result c = record { stands = return_start c.args.self.listed c.from.ensures }
