-- The least durations that a run takes along. Assumes nothing.
use mathlib.Core.Path.{◌≡◌}
use Prim.Native.Nat.{ℕ, zero, suc, ◌-◌}
use native.Mathlib.Omega.{arith}
use native.Mathlib.Numerals.{unary_clauses}
use lib.ListN.{drop, replicate}

-- Zeros, the first i of them dropped.
pub drop_zeros : (n i : ℕ) → drop i (replicate {A = ℕ} n 0) ≡ replicate (n - i) 0
drop_zeros n zero = simp unary_clauses
drop_zeros zero (suc i) = let e : 0 - suc i ≡ 0 = omega arith in rw e
drop_zeros (suc n) (suc i) = simp unary_clauses (drop_zeros n i)
