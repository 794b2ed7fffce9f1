-- The definition's two bits.
use native.Mathlib.Omega.{arith}
use Rattle.std.proofs.lemmas.Bool.Decides.{nat_tests}
use Rattle.definitions.specs.Bytes.{sequenced}
use Rattle.write_parts.proofs.is_sequenced.Goals as goal

pub returns-then-has : goal.returns-then-has
unfolding sequenced
returns-then-has c = grind (arith, nat_tests)

pub returns-else-has : goal.returns-else-has
unfolding sequenced
returns-else-has c = grind (arith, nat_tests)
