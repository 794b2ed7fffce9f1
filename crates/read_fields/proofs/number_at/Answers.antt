-- `read_fields::number_at` meets its contract: the sum of the two bytes.
use Rattle.read_fields.specs.Answers.{number_at}
use borrow.Author.Rules.{rules}
use Rattle.read_fields.proofs.number_at.Goals as goal

pub returns : goal.returns
unfolding number_at
returns c = search rules
