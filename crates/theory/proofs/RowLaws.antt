-- What an edge hands on, from a cell with a walk and from one without.
use mathlib.Core.Path.{◌≡◌, refl}
use Prim.Native.Nat.{◌+◌, ◌-◌, ◌≤◌, max, suc, zero, ℕ}
use native.Mathlib.Omega.{arith}
use Rattle.definitions.specs.Rounds.{extend}

pub extend_none : (r g l : ℕ) → r ≡ 0 → extend r g l ≡ 0
unfolding extend
extend_none zero g l h = refl
extend_none (suc r) g l h = absurd (omega arith)

pub extend_some : (r g l : ℕ) → 1 ≤ r → extend r g l ≡ max (r + g - l) 1
unfolding extend
extend_some zero g l h = absurd (omega arith)
extend_some (suc r) g l h = omega arith
