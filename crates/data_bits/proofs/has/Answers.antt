-- The digit that is tested is the one that `test_bit` reads.
use borrow.Author.Rules.{rules}
use Rattle.definitions.specs.Basics.{test_bit}
use Rattle.data_bits.proofs.has.Goals as goal

pub returns : goal.returns
unfolding test_bit
returns c = search rules
