-- Tables of n by n numbers; sums over the numbers below n, and the lengths of selections and of lists made of lists as such sums.
use mathlib.Core.Path.{◌≡◌, refl, sym, ap, ◌∙◌}
use mathlib.Core.Bool.{Bool, true, false, cond}
use mathlib.Core.Logic.{◌⊎◌, inl, inr, ◌≢◌}
use mathlib.Core.List.{List, [], ◌∷◌, flat_map}
use Prim.Native.Nat.{ℕ, zero, suc, ◌+◌, ◌-◌, ◌*◌, ◌<◌, ◌≤◌}
use native.Mathlib.Omega.{arith}
use native.Mathlib.Nat.{mul-le-mul, mul-le-mul_right, suc-mul}
use native.Mathlib.Numerals.{add-one}
use lib.ListN.{length, length-append}
use Rattle.definitions.specs.Limits.{most_steps, longest_table}
use Rattle.definitions.specs.Basics.{select_below, sum_below, tabulate}
use Rattle.laws.proofs.Lists.{flatMap_snoc}
use Rattle.laws.proofs.Tests.{last_or_below}

-- How many numbers a table has, and where row v ends.
pub square_small : (n : ℕ) → n ≤ most_steps → n * n ≤ longest_table
square_small n h = mul-le-mul h h

pub row_end : (n v : ℕ) → v < n → v * n + n ≤ n * n
row_end n v h = omega (arith, suc-mul v n, mul-le-mul_right {m = suc v} {n = n} n h)

-- The sum of f below n: none, one more, by its terms.
pub sum_below_none : (f : ℕ → ℕ) → sum_below f 0 ≡ 0
unfolding sum_below
sum_below_none f = refl

pub sum_below_more : (f : ℕ → ℕ) (n : ℕ) → sum_below f (n + 1) ≡ sum_below f n + f n
unfolding sum_below
sum_below_more f n = ap (sum_below f) (add-one n)

pub sum_below_same : (f g : ℕ → ℕ) (n : ℕ) → ((k : ℕ) → k < n → f k ≡ g k) → sum_below f n ≡ sum_below g n
unfolding sum_below
sum_below_same f g zero h = refl
sum_below_same f g (suc n) h = omega (arith, sum_below_same f g n (λ k b. h k (omega arith)), h n (omega arith))

pub sum_below_bound : (f : ℕ → ℕ) (b n : ℕ) → ((k : ℕ) → f k ≤ b) → sum_below f n ≤ b * n
unfolding sum_below
sum_below_bound f b zero h = omega arith
sum_below_bound f b (suc n) h = omega (arith, sum_below_bound f b n h, h n)

pub sum_below_zero : (f : ℕ → ℕ) (n : ℕ) → ((k : ℕ) → k < n → f k ≡ 0) → sum_below f n ≡ 0
unfolding sum_below
sum_below_zero f zero h = refl
sum_below_zero f (suc n) h = omega (arith, sum_below_zero f n (λ k b. h k (omega arith)), h n (omega arith))

-- Terms of 0 at the end add nothing. Induction on the number of them.
pub sum_below_cut : (f : ℕ → ℕ) (n m : ℕ) → n ≤ m → ((k : ℕ) → n ≤ k → f k ≡ 0) → sum_below f m ≡ sum_below f n
unfolding sum_below
sum_below_cut f n m b h =
    let e : m ≡ (m - n) + n = omega arith in
    ap (sum_below f) e ∙ go (m - n)
  where
    go : (j : ℕ) → sum_below f (j + n) ≡ sum_below f n
    go zero =
        let e : 0 + n ≡ n = omega arith in
        ap (sum_below f) e
    go (suc j) =
        let e : suc j + n ≡ suc (j + n) = omega arith in
        ap (sum_below f) e ∙ omega (arith, go j, h (j + n) (omega arith))

-- One term more by one, the others the same. Induction on n.
pub sum_below_one_more : (f g : ℕ → ℕ) (n i : ℕ) → i < n → g i ≡ f i + 1 → ((k : ℕ) → k ≢ i → g k ≡ f k) → sum_below g n ≡ sum_below f n + 1
unfolding sum_below
sum_below_one_more f g zero i b e h = absurd (omega arith)
sum_below_one_more f g (suc n) i b e h = go (last_or_below n i b) (λ c. sum_below_one_more f g n i c e h)
  where
    go : (i ≡ n) ⊎ (i < n) → (i < n → sum_below g n ≡ sum_below f n + 1) → sum_below g n + g n ≡ sum_below f n + f n + 1
    go (inl q) below = omega (arith, sum_below_same g f n (λ k c. h k (λ d. omega arith)), ap g q, ap f q, e)
    go (inr c) below = omega (arith, below c, h n (λ d. omega arith))

sum_below_plus : (f g : ℕ → ℕ) (n : ℕ) → sum_below (λ k. f k + g k) n ≡ sum_below f n + sum_below g n
unfolding sum_below
sum_below_plus f g zero = refl
sum_below_plus f g (suc n) = omega (arith, sum_below_plus f g n)

-- A table is summed by rows or by columns. Induction on the number of rows: the last row is added to each column.
pub sum_below_swap : (f : ℕ → ℕ → ℕ) (m n : ℕ) → sum_below (λ a. sum_below (f a) m) n ≡ sum_below (λ i. sum_below (λ a. f a i) n) m
unfolding sum_below
sum_below_swap f m zero = sym (sum_below_zero (λ i. 0) m (λ k b. refl))
sum_below_swap f m (suc n) = ap (λ (x : ℕ). x + sum_below (f n) m) (sum_below_swap f m n) ∙ sym (sum_below_plus (λ i. sum_below (λ a. f a i) n) (f n) m)

-- A selection is as long as the sum of its tests.
pub select_length : (test : ℕ → Bool) (n : ℕ) → length (select_below test n) ≡ sum_below (λ k. cond (test k) 1 0) n
unfolding sum_below select_below
select_length test zero = refl
select_length test (suc n) = length-append (select_below test n) (cond (test n) (n ∷ []) []) ∙ go (test n) (select_length test n)
  where
    go : (t : Bool) → length (select_below test n) ≡ sum_below (λ k. cond (test k) 1 0) n → length (select_below test n) + length (cond t (n ∷ []) []) ≡ sum_below (λ k. cond (test k) 1 0) n + cond t 1 0
    go true h = omega arith
    go false h = omega arith

pub select_length_bound : (test : ℕ → Bool) (n : ℕ) → length (select_below test n) ≤ n
select_length_bound test n = omega (arith, select_length test n, sum_below_bound (λ k. cond (test k) 1 0) 1 n (λ k. at_most_one (test k)))
  where
    at_most_one : (t : Bool) → cond t 1 0 ≤ 1
    at_most_one true = omega arith
    at_most_one false = omega arith

-- One fewer where 0 does not pass. Induction on n.
pub select_length_positive : (test : ℕ → Bool) → test 0 ≡ false → (n k : ℕ) → n ≤ suc k → length (select_below test n) ≤ k
unfolding select_below
select_length_positive test h zero k b = omega arith
select_length_positive test h (suc zero) k b = rw h (omega arith)
select_length_positive test h (suc (suc n)) k b =
    omega (arith, length-append (select_below test (suc n)) (cond (test (suc n)) (suc n ∷ []) []), select_length_positive test h (suc n) (k - 1) (omega arith), one (test (suc n)))
  where
    one : (t : Bool) → length (cond t (suc n ∷ []) []) ≤ 1
    one true = omega arith
    one false = omega arith

-- A list made of the lists of the numbers below n.
pub flatMap_length : {B : Type 0} (f : ℕ → List B) (n : ℕ) → length (flat_map f (tabulate (λ a. a) n)) ≡ sum_below (λ a. length (f a)) n
unfolding sum_below tabulate flat_map
flatMap_length f zero = refl
flatMap_length f (suc n) =
    ap length (flatMap_snoc f (tabulate (λ a. a) n) n)
    ∙ length-append (flat_map f (tabulate (λ a. a) n)) (f n)
    ∙ ap (λ (x : ℕ). x + length (f n)) (flatMap_length f n)
