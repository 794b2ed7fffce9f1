-- The maps with bit 4 that lack bits 0 and 3 are the keys.
use native.Mathlib.Omega.{arith}
use Rattle.read_pair.proofs.Parts.{map_alone, map_not_alone}
use Rattle.read_pair.proofs.map_fault.Goals as goal

pub returns-in-16 : goal.returns-in-16
returns-in-16 c = rw (map_alone _ c.in-16.is)

pub returns-in_default : goal.returns-in_default
returns-in_default c = rw (map_not_alone c.args.m (λ k. omega (arith, k)))
