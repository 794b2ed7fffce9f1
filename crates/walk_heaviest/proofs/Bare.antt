-- What a search for walks begins with: a table without walks, and numbers of which none is below 64.
use mathlib.Core.Path.{◌≡◌, refl, ap}
use mathlib.Core.List.{[]}
use Prim.Native.Nat.{ℕ, zero, suc}
use native.Mathlib.Omega.{arith}
use lib.IntN.{ℤ}
use lib.ListN.{length, replicate, get_or-replicate, length-replicate}
use Rattle.walk_cells.specs.Cells.{none}
use Rattle.walk_cells.specs.Tables.{cell_at, cell_of}
use Rattle.walk_seed.specs.Seeds.{Blank, Empty}

none_in : (n k : ℕ) → cell_of (replicate n none) k ≡ none
none_in zero k = refl
none_in (suc n) zero = refl
none_in (suc n) (suc k) = none_in n k

none_at : (n v k : ℕ) → cell_at (replicate n (replicate 64 none)) v k ≡ none
none_at zero v k = refl
none_at (suc n) zero k = none_in 64 k
none_at (suc n) (suc v) k = none_at n v k

pub empty_found : (n : ℕ) → Empty (replicate n (replicate 64 none))
empty_found n =
    record { square = record { rows = refl; cells = λ v b. ap length (get_or-replicate n v (replicate 64 none) [] (omega (arith, length-replicate n (replicate {A = ℤ} 64 none)))) }; cells = none_at n }

pub blank_found : Blank (replicate 64 64)
blank_found = record { long = refl; none = λ v b. get_or-replicate 64 v 64 0 b }
