-- `read_links::push` meets its contract: the word is written behind the others, or nothing is.
use Rattle.read_links.proofs.Pushing.{push_one}
use Rattle.read_links.proofs.push.Goals as goal

pub returns-then-there : goal.returns-then-there
returns-then-there c = rw c.if-there.true (push_one _ _ _ c.requires)
