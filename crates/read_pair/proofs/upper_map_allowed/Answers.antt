-- The maps with bit 0 and with bit 3 or bit 4 are the keys.
use mathlib.Core.Path.{sym}
use native.Mathlib.Omega.{arith}
use Rattle.read_pair.proofs.Parts.{map_upper, map_not_upper}
use Rattle.read_pair.proofs.upper_map_allowed.Goals as goal

pub returns-in-9 : goal.returns-in-9
returns-in-9 c = sym (map_upper _ c.in-9.is)

pub returns-in_default : goal.returns-in_default
returns-in_default c = sym (map_not_upper _ (λ k. omega (arith, k)))
