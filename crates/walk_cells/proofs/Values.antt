-- What cells say, and how that changes as they rise: the laws by which other crates know cells.
use mathlib.Core.Path.{◌≡◌, refl, ap}
use mathlib.Core.Logic.{inl, inr}
use Prim.Native.Nat.{ℕ, suc, ◌+◌, ◌-◌, ◌≤◌, ◌<◌, max}
use native.Mathlib.Omega.{arith}
use native.Mathlib.Decide.{dec_le}
use lib.IntN.{ℤ, pos, negsuc}
use Rattle.walk_cells.specs.Cells.{Clear, Delta, Risen, Small, height, move_limit, none, value}
use Rattle.walk_cells.proofs.Heights.{value_height}

pub value_none : value none ≡ 0
unfolding value
value_none = refl

-- A cell that says a weight is that weight.
pub value_walk : (c : ℤ) (w : ℕ) → value c ≡ suc w → c ≡ pos w
unfolding value
value_walk (pos n) w h = ap pos (omega arith)
value_walk (negsuc n) w h = absurd (omega arith)

-- A weight below the limit is what cells move by along an edge that gains it and loses nothing.
pub gain_delta : (w : ℕ) → Delta w 0 (pos w)
unfolding height
gain_delta w = record { sum = omega arith }

pub gain_small : (w : ℕ) → w < move_limit → Small (pos w)
unfolding height
gain_small w h = record { gains = omega arith; loses = omega arith }

-- A cell to which another one moves along an edge. It stays where that one says nothing; else it says the walk made longer, where that is more.
module _ {old c delta new : ℤ} (R : Risen old c delta new) where
  -- The larger of two cells has the larger height.
  highest : height new ≡ max (height old) (height R.moved)
  highest = by (dec_le (height R.moved) (height old))
    where
      by : Dec (height R.moved ≤ height old) → height new ≡ max (height old) (height R.moved)
      by (yes h) = rw (R.larger.kept h) (omega arith)
      by (no h) = rw (R.larger.taken (omega arith)) (omega arith)

  module _ {gain loss : ℕ} (g : gain < move_limit) (D : Delta gain loss delta) where
    pub risen_none : Clear c → value c ≡ 0 → value new ≡ value old
    unfolding Clear height
    risen_none (inl e) z = omega (arith, highest, R.sum, D.sum, ap height e, value_height new, value_height old)
    risen_none (inr b) z = absurd (omega arith)

    pub risen_some : 1 ≤ value c → value new ≡ max (value old) (value c + gain - loss)
    risen_some h = omega (arith, highest, R.sum, D.sum, value_height new, value_height old, value_height c)
