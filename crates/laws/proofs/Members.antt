-- The members of a map taken out one at a time: what some member passes, the largest value of a member, and the list of the members. Assumes nothing.
use mathlib.Core.Path.{◌≡◌, refl, sym, ap, ◌∙◌}
use mathlib.Core.Bool.{Bool, true, false, cond, not, ◌&&◌, ◌||◌, and-true}
use mathlib.Core.Logic.{◌⊎◌, inl, inr, ◌≢◌}
use mathlib.Core.List.{[], ◌∷◌, ◌++◌}
use Prim.Native.Nat.{ℕ, zero, suc, ◌<◌, ◌≤◌, max}
use native.Mathlib.Omega.{arith}
use lib.Dec.{eqb}
use borrow.Author.Tests.{eq-eqb, ne_eqb}
use Rattle.definitions.specs.Basics.{any_below, largest, select_below, test_bit}
use Rattle.laws.proofs.Bools.{same_or_not, both_ways, and_split, and_join, or_split, or_left, or_right, mark_back, gone, same_test}
use Rattle.laws.proofs.Maps.{test_zero}
use Rattle.laws.proofs.Tests.{any_below_has, any_below_by, none_any_below, select_below_none, largest_above, largest_below}

-- ---- the empty map, and one with no member below n

pub any_member_none : (f : ℕ → Bool) (n m : ℕ) → m ≡ 0 → any_below (λ j. test_bit m j && f j) n ≡ false
any_member_none f n m e = none_any_below (λ j. test_bit m j && f j) n (λ k b. ap (λ (t : Bool). t && f k) (ap (λ (x : ℕ). test_bit x k) e ∙ test_zero k))

pub largest_member_none : (f : ℕ → ℕ) (n m : ℕ) → ((k : ℕ) → k < n → test_bit m k ≡ false) → largest (test_bit m) f n ≡ 0
largest_member_none f n m h = omega (arith, largest_below (test_bit m) f n 0 (λ k b t. absurd (both_ways t (h k b))))

-- ---- m, and r that is m without its member x

module _ (m r x : ℕ) (member : test_bit m x ≡ true) (without : (j : ℕ) → test_bit r j ≡ (test_bit m j && not (eqb j x))) where
  stays : (j : ℕ) → j ≢ x → test_bit m j ≡ true → test_bit r j ≡ true
  stays j p t = without j ∙ ap (λ (s : Bool). test_bit m j && not s) (ne_eqb j x p) ∙ and-true (test_bit m j) ∙ t

  stood : (j : ℕ) → test_bit r j ≡ true → test_bit m j ≡ true
  stood j t = (and_split (test_bit m j) (not (eqb j x)) (sym (without j) ∙ t)).0

  -- Some member of m passes where x does, or one of r.
  pub any_member_less : (f : ℕ → Bool) (n : ℕ) → x < n → any_below (λ j. test_bit m j && f j) n ≡ (f x || any_below (λ j. test_bit r j && f j) n)
  any_member_less f n b = same_test (any_below of_m n) (f x || any_below of_r n) (λ t. down (any_below_has of_m n t)) (λ t. up (or_split (f x) (any_below of_r n) t))
    where
      of_m : ℕ → Bool
      of_m j = test_bit m j && f j

      of_r : ℕ → Bool
      of_r j = test_bit r j && f j

      down : (k : ℕ) × (k < n) × (of_m k ≡ true) → (f x || any_below of_r n) ≡ true
      down w = go (same_or_not w.0 x)
        where
          go : (w.0 ≡ x) ⊎ (w.0 ≢ x) → (f x || any_below of_r n) ≡ true
          go (inl e) = or_left (any_below of_r n) (ap f (sym e) ∙ (and_split (test_bit m w.0) (f w.0) w.2).1)
          go (inr p) =
              let s = and_split (test_bit m w.0) (f w.0) w.2 in
              or_right (f x) (any_below_by of_r n w.1 (and_join (stays w.0 p s.0) s.1))

      up : (f x ≡ true) ⊎ (any_below of_r n ≡ true) → any_below of_m n ≡ true
      up (inl t) = any_below_by of_m n b (and_join member t)
      up (inr t) =
          let w = any_below_has of_r n t in
          let s = and_split (test_bit r w.0) (f w.0) w.2 in
          any_below_by of_m n w.1 (and_join (stood w.0 s.0) s.1)

  -- The largest value of m is that of x or the largest of r.
  pub largest_member_less : (f : ℕ → ℕ) (n : ℕ) → x < n → largest (test_bit m) f n ≡ max (f x) (largest (test_bit r) f n)
  largest_member_less f n b =
      let above : f x ≤ largest (test_bit m) f n = largest_above (test_bit m) f n x b member in
      let rest : largest (test_bit r) f n ≤ largest (test_bit m) f n = largest_below (test_bit r) f n (largest (test_bit m) f n) (λ k c t. largest_above (test_bit m) f n k c (stood k t)) in
      let all : largest (test_bit m) f n ≤ max (f x) (largest (test_bit r) f n) = largest_below (test_bit m) f n (max (f x) (largest (test_bit r) f n)) (λ k c t. below k c t (same_or_not k x)) in
      omega arith
    where
      below : (k : ℕ) → k < n → test_bit m k ≡ true → (k ≡ x) ⊎ (k ≢ x) → f k ≤ max (f x) (largest (test_bit r) f n)
      below k c t (inl e) = omega (arith, ap f e)
      below k c t (inr p) = omega (arith, largest_above (test_bit r) f n k c (stays k p t))

  -- The members below n, rising: x first, where it is the smallest one of m, and then those of r. Induction on n: nothing below x is in either.
  pub select_member_first : ((j : ℕ) → j < x → test_bit m j ≡ false) → (n : ℕ) → x < n → select_below (test_bit m) n ≡ x ∷ select_below (test_bit r) n
  unfolding select_below
  select_member_first least zero b = absurd (omega arith)
  select_member_first least (suc n) b = go (same_or_not n x) (select_member_first least n)
    where
      same : n ≢ x → test_bit r n ≡ test_bit m n
      same p = without n ∙ ap (λ (s : Bool). test_bit m n && not s) (ne_eqb n x p) ∙ and-true (test_bit m n)

      taken : test_bit r x ≡ false
      taken = without x ∙ gone (test_bit m x) (eqb x x) (eq-eqb x x refl)

      go : (n ≡ x) ⊎ (n ≢ x) → (x < n → select_below (test_bit m) n ≡ x ∷ select_below (test_bit r) n) → select_below (test_bit m) n ++ cond (test_bit m n) (n ∷ []) [] ≡ x ∷ (select_below (test_bit r) n ++ cond (test_bit r n) (n ∷ []) [])
      go (inl e) below =
          rw (e, select_below_none (test_bit m) x least, select_below_none (test_bit r) x (λ j c. mark_back (stood j) (least j c)), member, taken)
      go (inr p) below = rw (below (omega arith), same p)
