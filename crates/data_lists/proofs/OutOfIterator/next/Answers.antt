-- What follows an edge in its list comes before it.
use Rattle.std.proofs.Common.{rules, arith}
use Rattle.data_lists.proofs.Following.{edge_out, edge_out_less}
use Rattle.data_lists.proofs.OutOfIterator.next.Goals as goal

pub invariant_of-self : goal.invariant_of-self
invariant_of-self c =
    let s = c.args.self.now in
    omega (arith, edge_out_less (edge_out s.es.listed (omega arith) s.inside c.from-self.ensures), s.inside)

pub returns-clause-goes : goal.returns-clause-goes
returns-clause-goes c =
    let s = c.args.self.now in
    let less = edge_out_less (edge_out s.es.listed (omega arith) s.inside c.from-self.ensures) in
    search (rules, less)
