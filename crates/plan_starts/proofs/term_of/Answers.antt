-- The three numbers, added.
use Rattle.plan_starts.specs.Times.{term}
use native.Mathlib.Omega.{arith}
use Rattle.plan_starts.proofs.term_of.Goals as goal

pub returns : goal.returns
unfolding term
returns c = omega arith
