-- Both ends are steps exactly if the larger of them is one.
use Rattle.std.proofs.Common.{arith}
use Rattle.std.proofs.lemmas.Bool.Decides.{nat_tests}
use Rattle.definitions.specs.Bytes.{endpoints}
use Rattle.read_pair.proofs.endpoints_allowed.Goals as goal

pub returns-then-from-n : goal.returns-then-from-n
unfolding endpoints
returns-then-from-n c = grind (arith, nat_tests)

pub returns-else-from-n : goal.returns-else-from-n
unfolding endpoints
returns-else-from-n c = grind (arith, nat_tests)
