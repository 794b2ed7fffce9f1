-- By the law of the union.
use Rattle.laws.proofs.Maps.{test_or}
use Rattle.data_sets.proofs.union.Goals as goal

pub returns : goal.returns
returns c = test_or c.args.a c.args.b
