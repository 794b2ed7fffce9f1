-- Returns are no more than words, so that behind each there is one more place.
use Rattle.std.proofs.Common.{arith}
use Rattle.data_lists.proofs.Returning.{return_below, return_next}
use Rattle.data_lists.proofs.EachReturnIterator.next.Goals as goal

pub bounds-self-at : goal.bounds-self-at
bounds-self-at c =
    let s = c.args.self.now in
    omega (arith, return_below (omega arith) s.stands, s.es.listed.long)

pub invariant_of-self : goal.invariant_of-self
invariant_of-self c =
    let s = c.args.self.now in
    record { stands = return_next s.es.listed (omega arith) s.stands c.from-next.ensures }
