-- The head of a list is no later than the last edge.
use Rattle.std.proofs.Common.{arith, length}
use Rattle.data_lists.proofs.Laws.{last_below}
use Rattle.data_lists.proofs.Edges.out_of.Goals as goal

pub invariant_of-result : goal.invariant_of-result
invariant_of-result c = omega (arith, c.from.ensures, c.args.self.listed.heads _ c.requires, last_below c.args.self.words.now c.args.u (length c.args.self.words.now))
