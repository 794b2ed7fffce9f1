-- A member that is taken out leaves a smaller map.
use Rattle.std.proofs.Common.{rules}
use Rattle.laws.proofs.Maps.{removed_lt}
use Rattle.data_bits.proofs.EachMemberIterator.next.Goals as goal

pub returns-clause-goes : goal.returns-clause-goes
returns-clause-goes c =
    let low = c.lowest-k.ensures in
    let less = removed_lt _ _ _ low.member (c.without_lowest-self.ensures _ low) in
    search (rules, less)
