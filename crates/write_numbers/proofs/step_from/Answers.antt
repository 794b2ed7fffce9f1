-- Map by map.
use native.Mathlib.Omega.{arith}
use Rattle.write_numbers.proofs.Decoded.{step_zero, step_open, step_fixed, step_least, step_wrong}
use Rattle.write_numbers.proofs.step_from.Goals as goal

pub returns-in-0 : goal.returns-in-0
returns-in-0 c = step_zero _ c.in-0.is

pub returns-in-1 : goal.returns-in-1
returns-in-1 c = step_open _ c.in-1.is

pub returns-in-2 : goal.returns-in-2
returns-in-2 c = step_fixed _ c.in-2.is

pub returns-in-5 : goal.returns-in-5
returns-in-5 c = step_least _ c.in-5.is

pub returns-in_default : goal.returns-in_default
returns-in_default c = step_wrong _ _ (omega arith) (omega arith) (omega arith) (omega arith)
