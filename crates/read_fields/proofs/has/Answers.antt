-- `read_fields::has` meets its contract: the test is the text of `test_bit`.
use Rattle.definitions.specs.Basics.{test_bit}
use borrow.Author.Rules.{rules}
use Rattle.read_fields.proofs.has.Goals as goal

pub returns : goal.returns
unfolding test_bit
returns c = search rules
