-- The difference with the power of two.
use borrow.Author.Rules.{rules}
use Rattle.laws.proofs.Maps.{test_remove_shl}
use Rattle.data_bits.proofs.remove.Goals as goal

pub returns : goal.returns
returns c j = test_remove_shl c.args.m c.args.k j (search rules) (search rules)
