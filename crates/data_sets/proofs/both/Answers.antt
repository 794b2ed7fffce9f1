-- By the law of the intersection.
use Rattle.laws.proofs.Maps.{test_and}
use Rattle.data_sets.proofs.both.Goals as goal

pub returns : goal.returns
returns c = test_and c.args.a c.args.b
