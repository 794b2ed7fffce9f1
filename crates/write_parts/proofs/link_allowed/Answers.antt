-- No bit, an unknown bit, or the definition's two bits.
use native.Mathlib.Omega.{arith}
use Rattle.std.proofs.lemmas.Bool.Decides.{nat_tests}
use Rattle.definitions.specs.Bytes.{link_map}
use Rattle.write_parts.proofs.link_allowed.Goals as goal

pub returns-then-has : goal.returns-then-has
unfolding link_map
returns-then-has c = grind (arith, nat_tests)

pub returns-else-has : goal.returns-else-has
unfolding link_map
returns-else-has c = grind (arith, nat_tests)

pub returns-else-m-le31 : goal.returns-else-m-le31
unfolding link_map
returns-else-m-le31 c = grind (arith, nat_tests)
