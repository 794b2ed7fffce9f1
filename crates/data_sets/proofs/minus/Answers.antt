-- By the law of the difference, at 64 bits.
use borrow.Author.Rules.{rules}
use Rattle.laws.proofs.Maps.{test_minus}
use Rattle.data_sets.proofs.minus.Goals as goal

pub returns : goal.returns
returns c j = test_minus 64 c.args.a c.args.b j (search rules) (search rules)
