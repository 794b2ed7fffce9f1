-- By whether it is step 0, and whether the map is at most 2.
use native.Mathlib.Omega.{arith}
use Rattle.std.proofs.lemmas.Bool.Decides.{nat_tests}
use Rattle.definitions.specs.Bytes.{operation_map}
use Rattle.write_parts.proofs.step_allowed.Goals as goal

pub returns-then-first : goal.returns-then-first
unfolding operation_map
returns-then-first c = grind (arith, nat_tests)

pub returns-then-m-le2 : goal.returns-then-m-le2
unfolding operation_map
returns-then-m-le2 c = grind (arith, nat_tests)

pub returns-else-m-le2 : goal.returns-else-m-le2
unfolding operation_map
returns-else-m-le2 c = grind (arith, nat_tests)
