-- The delays in which one step alone lasts.
use mathlib.Core.Path.{◌≡◌, refl}
use mathlib.Core.Bool.{Bool, cond, false, true}
use mathlib.Core.Logic.{◌≢◌}
use Prim.Native.Nat.{◌≤◌, suc, zero, ℕ}
use native.Mathlib.Omega.{arith}
use lib.Dec.{eqb}
use borrow.Author.Tests.{eq-eqb, ne_eqb}
use Rattle.laws.proofs.Bools.{cond_false, cond_true}
use Rattle.theory.specs.Graphs.{sole_delay}

pub sole_delay_source : (x a : ℕ) → sole_delay x a 0 ≡ 0
unfolding sole_delay
sole_delay_source x zero = refl
sole_delay_source x (suc a) = cond_false x 0 (ne_eqb 0 (suc a) (λ z. omega arith))

pub sole_delay_own : (x a : ℕ) → a ≢ 0 → sole_delay x a a ≡ x
unfolding sole_delay
sole_delay_own x zero h = absurd (h refl)
sole_delay_own x (suc a) h = cond_true x 0 (eq-eqb (suc a) (suc a) refl)

pub sole_delay_other : (x a b : ℕ) → b ≢ a → sole_delay x a b ≡ 0
unfolding sole_delay
sole_delay_other x zero b h = refl
sole_delay_other x (suc a) b h = cond_false x 0 (ne_eqb b (suc a) h)

pub sole_delay_limit : (x a b : ℕ) → sole_delay x a b ≤ x
unfolding sole_delay
sole_delay_limit x zero b = omega arith
sole_delay_limit x (suc a) b = go (eqb b (suc a))
  where
    go : (t : Bool) → cond t x 0 ≤ x
    go true = omega arith
    go false = omega arith
