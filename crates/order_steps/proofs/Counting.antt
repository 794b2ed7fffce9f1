-- How many numbers below n pass a test: one that goes counts one less, all count n, and where some are counted one passes.
use mathlib.Core.Path.{◌≡◌, refl, sym, ap, ◌∙◌}
use mathlib.Core.Bool.{Bool, true, false, cond, not, ◌&&◌, and-true}
use mathlib.Core.Logic.{◌⊎◌, inl, inr, ◌≢◌}
use Prim.Native.Nat.{ℕ, zero, suc, ◌<◌, ◌≤◌}
use native.Mathlib.Omega.{arith}
use lib.Dec.{eqb}
use lib.ListN.{length}
use borrow.Author.Tests.{eq-eqb, ne_eqb}
use Rattle.definitions.specs.Basics.{any_below, select_below, sum_below}
use Rattle.laws.proofs.Bools.{same_or_not}
use Rattle.laws.proofs.Counts.{select_length, sum_below_bound, sum_below_same}
use Rattle.laws.proofs.Tests.{any_below_has, any_below_none}

abbrev tally : (ℕ → Bool) → ℕ → ℕ
tally f k = cond (f k) 1 0

-- g is f without u.
module _ (f g : ℕ → Bool) (u : ℕ) (member : f u ≡ true) (without : (k : ℕ) → g k ≡ (f k && not (eqb k u))) where
  other : (k : ℕ) → k ≢ u → tally f k ≡ tally g k
  other k d = ap (λ (b : Bool). cond b 1 0) (sym (without k ∙ ap (λ (b : Bool). f k && not b) (ne_eqb k u d) ∙ and-true (f k)))

  here : tally f u ≡ 1
  here = ap (λ (b : Bool). cond b 1 0) member

  there : tally g u ≡ 0
  there = ap (λ (b : Bool). cond b 1 0) (without u ∙ ap (λ (b : Bool). b && not (eqb u u)) member ∙ ap not (eq-eqb u u refl))

  sum_less : (n : ℕ) → u < n → sum_below (tally f) n ≡ suc (sum_below (tally g) n)
  unfolding sum_below
  sum_less zero b = absurd (omega arith)
  sum_less (suc n) b = by (same_or_not n u) (sum_less n)
    where
      by : (n ≡ u) ⊎ (n ≢ u) → (u < n → sum_below (tally f) n ≡ suc (sum_below (tally g) n)) → sum_below (tally f) (suc n) ≡ suc (sum_below (tally g) (suc n))
      by (inl e) less =
          omega (arith, ap (tally f) e, ap (tally g) e, here, there, sum_below_same (tally f) (tally g) n (λ k l. other k (λ x. omega arith)))
      by (inr d) less = omega (arith, less (omega arith), other n d)

  pub count_less : (n : ℕ) → u < n → length (select_below f n) ≡ suc (length (select_below g n))
  count_less n b = select_length f n ∙ sum_less n b ∙ ap suc (sym (select_length g n))

pub member_counts : (f : ℕ → Bool) (u n : ℕ) → f u ≡ true → u < n → 1 ≤ length (select_below f n)
member_counts f u n h b = omega (arith, count_less f (λ k. f k && not (eqb k u)) u h (λ k. refl) n b)

pub all_count : (f : ℕ → Bool) (n : ℕ) → ((k : ℕ) → k < n → f k ≡ true) → length (select_below f n) ≡ n
unfolding sum_below
all_count f n h = select_length f n ∙ sums n (λ k b. ap (λ (t : Bool). cond t 1 0) (h k b))
  where
    sums : (m : ℕ) → ((k : ℕ) → k < m → tally f k ≡ 1) → sum_below (tally f) m ≡ m
    sums zero g = refl
    sums (suc m) g = omega (arith, sums m (λ k b. g k (omega arith)), g m (omega arith))

pub counts_some : (f : ℕ → Bool) (n : ℕ) → 1 ≤ length (select_below f n) → (k : ℕ) × (k < n) × (f k ≡ true)
counts_some f n h = by (any_below f n) refl
  where
    by : (t : Bool) → any_below f n ≡ t → (k : ℕ) × (k < n) × (f k ≡ true)
    by true q = any_below_has f n q
    by false q =
        absurd
        (let same = sum_below_same (tally f) (λ k. 0) n (λ k b. ap (λ (t : Bool). cond t 1 0) (any_below_none f n q k b)) in
        omega (arith, select_length f n, same, sum_below_bound (λ k. 0) 0 n (λ k. omega arith)))
