-- A map from 1 to 7 is allowed, and another only with bit 3 or bit 4.
use mathlib.Core.Path.{sym, ◌∙◌}
use mathlib.Core.Logic.{◌⊎◌, inl, inr}
use native.Mathlib.Omega.{arith}
use Rattle.read_pair.proofs.map_allowed.Goals.{in_default-via-then-m-lt1, in_default-via-else-m-lt1+else-m-lt8}
use Prim.Native.Nat.{◌≤◌, ◌<◌}
use Rattle.read_pair.proofs.Parts.{map_low, map_outside}
use Rattle.read_pair.proofs.map_allowed.Goals as goal

pub returns-in-1-to-7 : goal.returns-in-1-to-7
returns-in-1-to-7 c = sym (map_low _ (omega arith) (omega arith))

pub returns-in_default : goal.returns-in_default
returns-in_default c =
    let m = c.args.m in
    let outside : (m < 1) ⊎ (8 ≤ m) = elim c.in_default.branch [ in_default-via-then-m-lt1 w ↦ inl (omega arith) | in_default-via-else-m-lt1+else-m-lt8 w ↦ inr (omega arith) ] in
    c.upper_map_allowed.ensures ∙ map_outside m outside
