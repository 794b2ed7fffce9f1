-- By the law of a map and one less.
use Rattle.laws.proofs.Maps.{test_without_lowest}
use Rattle.data_bits.proofs.without_lowest.Goals as goal

pub returns : goal.returns
returns c k low j = test_without_lowest c.args.m k j low.member low.least
