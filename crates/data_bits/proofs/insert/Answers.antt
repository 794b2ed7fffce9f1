-- The union with the power of two.
use borrow.Author.Rules.{rules}
use Rattle.laws.proofs.Maps.{test_insert_shl}
use Rattle.data_bits.proofs.insert.Goals as goal

pub returns : goal.returns
returns c j = test_insert_shl c.args.m c.args.k j (search rules)
