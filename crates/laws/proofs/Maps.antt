-- Laws of maps of bits, `test_bit` and `bits_below`, for maps of any width; the forms that code gives them at 64 bits stand at the end. Assumes nothing.
use mathlib.Core.Path.{◌≡◌, refl, sym, ap, ap₂, ◌∙◌, subst, fun_ext}
use mathlib.Core.Bool.{Bool, true, false, cond, not, ◌&&◌, ◌||◌, and-false, or-false, or-true, and-true, or_self, and_self, true≢false, false≢true}
use mathlib.Core.List.{[], ◌∷◌}
use mathlib.Core.Logic.{◌⊎◌, inl, inr, ⊎_elim}
use Prim.Native.Nat.{ℕ, zero, suc, ◌+◌, ◌-◌, ◌*◌, ◌/◌, ◌%◌, ◌^◌, ◌<◌, ◌≤◌, min, max}
use native.Mathlib.Omega.{arith}
use native.Mathlib.Nat.{div-lt_iff_lt-mul, pow-suc, one-mul, div-eq_of_lt, lt_of_lt_of_le, not-suc-le-zero, mod-eq_of_lt, mod-lt}
use lib.Arith.{digits_mod}
use lib.Pow.{pow-lt, pow_pos, pow_mono, pow-add, shl-shr, shl_exact, shr-shr, mod-pow-add}
use lib.Bits.{bit_and, bit_or, or_shr, and_shr, or_step, and_step, or_add_and, and_le_l, and_le_r}
use lib.Count.{ones, ones_cat, count_leading_zeros, leading_top, count_trailing_zeros, under}
use lib.Dec.{eqb, ltb}
use lib.ListN.{length, length-append}
use borrow.Author.Tests.{ltb-true, ltb-false, lt-ltb, le-ltb, eqb-true, eqb-false, eq-eqb, ne_eqb}
use Rattle.laws.proofs.Tests.{any_below_has, any_below_none}
use Rattle.definitions.specs.Basics.{any_below, select_below, test_bit, bits_below}

-- The digit that `test_bit` reads.
abbrev digit : ℕ → ℕ → ℕ
digit m k = m / 2 ^ k % 2

by_digit : (m k : ℕ) → test_bit m k ≡ eqb (digit m k) 1
unfolding test_bit
by_digit m k = refl

-- Two tests on digits, below 2, by their four cases.
tests_max : (x y : ℕ) → x < 2 → y < 2 → eqb (max x y) 1 ≡ (eqb x 1 || eqb y 1)
tests_max zero zero _ _ = refl
tests_max zero (suc zero) _ _ = refl
tests_max zero (suc (suc y)) _ h = absurd (let f : ⊥ = omega arith in f)
tests_max (suc zero) zero _ _ = refl
tests_max (suc zero) (suc zero) _ _ = refl
tests_max (suc zero) (suc (suc y)) _ h = absurd (let f : ⊥ = omega arith in f)
tests_max (suc (suc x)) y h _ = absurd (let f : ⊥ = omega arith in f)

tests_min : (x y : ℕ) → x < 2 → y < 2 → eqb (min x y) 1 ≡ (eqb x 1 && eqb y 1)
tests_min zero zero _ _ = refl
tests_min zero (suc zero) _ _ = refl
tests_min zero (suc (suc y)) _ h = absurd (let f : ⊥ = omega arith in f)
tests_min (suc zero) zero _ _ = refl
tests_min (suc zero) (suc zero) _ _ = refl
tests_min (suc zero) (suc (suc y)) _ h = absurd (let f : ⊥ = omega arith in f)
tests_min (suc (suc x)) y h _ = absurd (let f : ⊥ = omega arith in f)

-- Two digits with the same test are the same digit; and the test of a digit that makes a sum of one with another.
same_digit : (x y : ℕ) → x < 2 → y < 2 → eqb x 1 ≡ eqb y 1 → x ≡ y
same_digit zero zero _ _ e = refl
same_digit zero (suc zero) _ _ e = absurd (false≢true e)
same_digit zero (suc (suc y)) _ h e = absurd (let f : ⊥ = omega arith in f)
same_digit (suc zero) zero _ _ e = absurd (true≢false e)
same_digit (suc zero) (suc zero) _ _ e = refl
same_digit (suc zero) (suc (suc y)) _ h e = absurd (let f : ⊥ = omega arith in f)
same_digit (suc (suc x)) y h _ e = absurd (let f : ⊥ = omega arith in f)

other_digit : (x y : ℕ) → x + y ≡ 1 → eqb x 1 ≡ not (eqb y 1)
other_digit zero zero h = absurd (let f : ⊥ = omega arith in f)
other_digit zero (suc zero) h = refl
other_digit zero (suc (suc y)) h = absurd (let f : ⊥ = omega arith in f)
other_digit (suc zero) zero h = refl
other_digit (suc zero) (suc y) h = absurd (let f : ⊥ = omega arith in f)
other_digit (suc (suc x)) y h = absurd (let f : ⊥ = omega arith in f)

-- ---- union and intersection

-- A union is at least as large as its parts.
pub or_above : (a b : ℕ) → (a ≤ bit_or a b) × (b ≤ bit_or a b)
or_above a b = (omega (arith, or_add_and a b, and_le_r a b), omega (arith, or_add_and a b, and_le_l a b))

or_odd : (a b : ℕ) → bit_or a b % 2 ≡ max (a % 2) (b % 2)
or_odd a b = rw (or_step a b) (digits_mod (bit_or (a / 2) (b / 2)) (omega arith))

and_odd : (a b : ℕ) → bit_and a b % 2 ≡ min (a % 2) (b % 2)
and_odd a b = rw (and_step a b) (digits_mod (bit_and (a / 2) (b / 2)) (omega arith))

-- A shift goes through the union, and the lowest digit of a union is the larger one.
pub test_or : (a b k : ℕ) → test_bit (bit_or a b) k ≡ (test_bit a k || test_bit b k)
unfolding test_bit
test_or a b k =
    ap (λ (x : ℕ). eqb (x % 2) 1) (or_shr a b k) ∙ ap (λ (x : ℕ). eqb x 1) (or_odd (a / 2 ^ k) (b / 2 ^ k))
    ∙ tests_max (digit a k) (digit b k) (omega arith) (omega arith)

-- Likewise, with the smaller one.
pub test_and : (a b k : ℕ) → test_bit (bit_and a b) k ≡ (test_bit a k && test_bit b k)
unfolding test_bit
test_and a b k =
    ap (λ (x : ℕ). eqb (x % 2) 1) (and_shr a b k) ∙ ap (λ (x : ℕ). eqb x 1) (and_odd (a / 2 ^ k) (b / 2 ^ k))
    ∙ tests_min (digit a k) (digit b k) (omega arith) (omega arith)

-- ---- no member, one member, members below a bound

-- The empty map: every quotient of 0 is 0.
pub test_zero : (k : ℕ) → test_bit 0 k ≡ false
unfolding test_bit
test_zero k = ap (λ (x : ℕ). eqb (x % 2) 1) (div-eq_of_lt (pow_pos k))

-- A number below 2 ^ n is below 2 ^ k from n on, so its quotient by 2 ^ k is 0.
pub test_above : (m n k : ℕ) → m < 2 ^ n → n ≤ k → test_bit m k ≡ false
unfolding test_bit
test_above m n k h l = ap (λ (x : ℕ). eqb (x % 2) 1) (div-eq_of_lt (lt_of_lt_of_le h (pow_mono l)))

pow_same : (a : ℕ) → digit (2 ^ a) a ≡ 1
pow_same a = ap (λ (x : ℕ). x % 2) (ap (λ (x : ℕ). x / 2 ^ a) (sym (one-mul (2 ^ a))) ∙ shl-shr 1 a)

pow_above : (a k : ℕ) → a < k → digit (2 ^ a) k ≡ 0
pow_above a k h = ap (λ (x : ℕ). x % 2) (div-eq_of_lt (pow-lt h))

-- 2 ^ (suc j + k) / 2 ^ k is even.
pow_gap : (k j : ℕ) → digit (2 ^ (suc j + k)) k ≡ 0
pow_gap k j =
    ap (λ (x : ℕ). x % 2) (ap (λ (x : ℕ). x / 2 ^ k) (pow-add 2 (suc j) k) ∙ shl-shr (2 ^ suc j) k)
    ∙ rw (pow-suc 2 j) (omega arith)

pow_below : (a k : ℕ) → k < a → digit (2 ^ a) k ≡ 0
pow_below a k h = subst (λ (x : ℕ). digit (2 ^ x) k ≡ 0) (let e : suc (a - k - 1) + k ≡ a = omega arith in e) (pow_gap k (a - k - 1))

apart_by : (k a : ℕ) (t : Bool) → ltb k a ≡ t → (k ≡ a → ⊥) → (k < a) ⊎ (a < k)
apart_by k a true e h = inl (ltb-true k a e)
apart_by k a false e h = let l : a ≤ k = ltb-false k a e in inr (omega arith)

test_pow_by : (a k : ℕ) (t : Bool) → eqb k a ≡ t → test_bit (2 ^ a) k ≡ t
unfolding test_bit
test_pow_by a k true e = rw (eqb-true k a e) (ap (λ (x : ℕ). eqb x 1) (pow_same a))
test_pow_by a k false e = ap (λ (x : ℕ). eqb x 1) (⊎_elim (pow_below a k) (pow_above a k) (apart_by k a (ltb k a) refl (eqb-false k a e)))

-- The one member of 2 ^ a is a: below a the quotient is even, above a it is 0.
pub test_pow : (a k : ℕ) → test_bit (2 ^ a) k ≡ eqb k a
test_pow a k = test_pow_by a k (eqb k a) refl

-- One member more, by the union with its power of two.
pub test_insert : (m a k : ℕ) → test_bit (bit_or m (2 ^ a)) k ≡ (test_bit m k || eqb k a)
test_insert m a k = test_or m (2 ^ a) k ∙ ap (λ (t : Bool). test_bit m k || t) (test_pow a k)

-- ---- the complement and the difference

half_test : (m k : ℕ) → test_bit m (suc k) ≡ test_bit (m / 2) k
unfolding test_bit
half_test m k = ap (λ (x : ℕ). eqb (x % 2) 1) (sym (shr-shr m 1 k ∙ ap (λ (x : ℕ). m / 2 ^ x) (let e : 1 + k ≡ suc k = omega arith in e)))

low_test : (m : ℕ) → test_bit m 0 ≡ eqb (m % 2) 1
unfolding test_bit
low_test m = let e : m / 2 ^ 0 ≡ m = omega arith in ap (λ (x : ℕ). eqb (x % 2) 1) e

ltb_zero : (n : ℕ) → ltb 0 (suc n) ≡ true
ltb_zero n = lt-ltb 0 (suc n) (omega arith)

ltb_suc : (k n : ℕ) → ltb (suc k) (suc n) ≡ ltb k n
ltb_suc k n = lib.Dec.leb-suc-suc (suc k) n

-- x and y together are 2 ^ n - 1, all of whose n digits are 1: digit by digit one of them is 1. By induction on n, halving both.
pub test_rest : (n x y k : ℕ) → x + suc y ≡ 2 ^ n → test_bit x k ≡ (ltb k n && not (test_bit y k))
test_rest zero x y k e = ap (λ (m : ℕ). test_bit m k) (let z : x ≡ 0 = omega arith in z) ∙ test_zero k ∙ ap (λ (t : Bool). t && not (test_bit y k)) (sym (le-ltb k 0 (omega arith)))
test_rest (suc n) x y zero e =
    let p : 2 ^ suc n ≡ 2 ^ n * 2 = pow-suc 2 n in
    low_test x ∙ other_digit (x % 2) (y % 2) (omega arith) ∙ ap not (sym (low_test y)) ∙ ap (λ (t : Bool). t && not (test_bit y 0)) (sym (ltb_zero n))
test_rest (suc n) x y (suc k) e =
    let p : 2 ^ suc n ≡ 2 ^ n * 2 = pow-suc 2 n in
    half_test x k ∙ test_rest n (x / 2) (y / 2) k (omega arith) ∙ ap₂ (λ (s t : Bool). s && not t) (sym (ltb_suc k n)) (sym (half_test y k))

-- The members of a that are not in b: the intersection with the complement. From n on neither side has members, since a has n digits.
pub test_minus : (n a b k : ℕ) → a < 2 ^ n → b < 2 ^ n → test_bit (bit_and a (2 ^ n - 1 - b)) k ≡ (test_bit a k && not (test_bit b k))
test_minus n a b k ha hb = test_and a (2 ^ n - 1 - b) k ∙ ap (λ (t : Bool). test_bit a k && t) (test_rest n (2 ^ n - 1 - b) b k (omega arith)) ∙ go (ltb k n) refl
  where
    go : (t : Bool) → ltb k n ≡ t → (test_bit a k && (t && not (test_bit b k))) ≡ (test_bit a k && not (test_bit b k))
    go true e = refl
    go false e = let z : test_bit a k ≡ false = test_above a n k ha (ltb-false k n e) in rw z

-- ---- maps are equal by their members

-- By induction on n: the lowest digits agree, and the halves by the members above.
pub same_below : (n a b : ℕ) → a < 2 ^ n → b < 2 ^ n → ((k : ℕ) → k < n → test_bit a k ≡ test_bit b k) → a ≡ b
same_below zero a b ha hb h = omega arith
same_below (suc n) a b ha hb h =
    let p : 2 ^ suc n ≡ 2 ^ n * 2 = pow-suc 2 n in
    let half : a / 2 ≡ b / 2 = same_below n (a / 2) (b / 2) (omega arith) (omega arith) (λ k l. sym (half_test a k) ∙ h (suc k) (omega arith) ∙ half_test b k) in
    let low : a % 2 ≡ b % 2 = same_digit (a % 2) (b % 2) (omega arith) (omega arith) (sym (low_test a) ∙ h 0 (omega arith) ∙ low_test b) in
    omega arith

-- Each power of two is at least twice the one before.
pub below_pow : (n : ℕ) → n < 2 ^ n
below_pow zero = omega arith
below_pow (suc n) = let h : n < 2 ^ n = below_pow n in let p : 2 ^ suc n ≡ 2 ^ n * 2 = pow-suc 2 n in omega arith

-- Both are below 2 ^ (a + b).
pub same_map : (a b : ℕ) → ((k : ℕ) → test_bit a k ≡ test_bit b k) → a ≡ b
same_map a b h =
    let l : a + b < 2 ^ (a + b) = below_pow (a + b) in same_below (a + b) a b (omega arith) (omega arith) (λ k _. h k)

-- ---- the map of the numbers that pass a test

-- The sum of two maps that share no member is their union: union and intersection add up to the sum, and the intersection is empty.
pub add_is_union : (a b : ℕ) → ((k : ℕ) → (test_bit a k && test_bit b k) ≡ false) → a + b ≡ bit_or a b
add_is_union a b h =
    let s : bit_or a b + bit_and a b ≡ a + b = or_add_and a b in
    let z : bit_and a b ≡ 0 = same_map (bit_and a b) 0 (λ k. test_and a b k ∙ h k ∙ sym (test_zero k)) in
    omega arith

-- So a member that does not stand is put in by a sum.
pub add_is_insert : (m k : ℕ) → test_bit m k ≡ false → m + 2 ^ k ≡ bit_or m (2 ^ k)
add_is_insert m k e = add_is_union m (2 ^ k) (λ j. ap (λ (t : Bool). test_bit m j && t) (test_pow k j) ∙ at j (eqb j k) refl)
  where
    at : (j : ℕ) (t : Bool) → eqb j k ≡ t → (test_bit m j && t) ≡ false
    at j true q = rw (eqb-true j k q, e)
    at j false q = and-false (test_bit m j)

-- A map that lost a member is smaller: the sum that puts the member in again is the map.
pub removed_lt : (m r k : ℕ) → test_bit m k ≡ true → ((j : ℕ) → test_bit r j ≡ (test_bit m j && not (eqb j k))) → r < m
removed_lt m r k e h =
    let s : r + 2 ^ k ≡ m = add_is_insert r k absent ∙ same_map (bit_or r (2 ^ k)) m (λ j. test_insert r k j ∙ ap (λ (t : Bool). t || eqb j k) (h j) ∙ at j (eqb j k) refl) in
    let p : 0 < 2 ^ k = pow_pos k in
    omega arith
  where
    absent : test_bit r k ≡ false
    absent = h k ∙ ap (λ (t : Bool). test_bit m k && not t) (eq-eqb k k refl) ∙ and-false (test_bit m k)

    at : (j : ℕ) (t : Bool) → eqb j k ≡ t → (test_bit m j && not t || t) ≡ test_bit m j
    at j true q = or-true (test_bit m j && false) ∙ sym (ap (test_bit m) (eqb-true j k q) ∙ e)
    at j false q = or-false (test_bit m j && true) ∙ and-true (test_bit m j)

cond_lt : (t : Bool) (b p q : ℕ) → b < p → q ≡ p * 2 → b + cond t p 0 < q
cond_lt true b p q h e = omega arith
cond_lt false b p q h e = omega arith

-- By induction: what is added at n at most doubles the bound.
pub bits_below_lt : (f : ℕ → Bool) (n : ℕ) → bits_below f n < 2 ^ n
unfolding bits_below
bits_below_lt f zero = omega arith
bits_below_lt f (suc n) = cond_lt (f n) (bits_below f n) (2 ^ n) (2 ^ suc n) (bits_below_lt f n) (pow-suc 2 n)

-- One number more below the bound: k is below suc n where it is below n, or is n.
ltb_more : (k n : ℕ) → ltb k (suc n) ≡ (ltb k n || eqb k n)
ltb_more k n = by (ltb k n) refl
  where
    here : (t : Bool) → eqb k n ≡ t → n ≤ k → ltb k (suc n) ≡ t
    here true e l = let p : k ≡ n = eqb-true k n e in lt-ltb k (suc n) (omega arith)
    here false e l = let p : k ≡ n → ⊥ = eqb-false k n e in le-ltb k (suc n) (omega arith)

    by : (t : Bool) → ltb k n ≡ t → ltb k (suc n) ≡ (t || eqb k n)
    by true e = let p : k < n = ltb-true k n e in lt-ltb k (suc n) (omega arith)
    by false e = here (eqb k n) refl (ltb-false k n e)

-- The members are the numbers below n that pass. By induction on n: the next power of two, where it is added, is a new member.
pub test_bits_below : (f : ℕ → Bool) (n k : ℕ) → test_bit (bits_below f n) k ≡ (ltb k n && f k)
unfolding bits_below
test_bits_below f zero k = test_zero k ∙ ap (λ (t : Bool). t && f k) (sym (le-ltb k 0 (omega arith)))
test_bits_below f (suc n) k = more (f n) refl (test_bits_below f n k) ∙ ap (λ (t : Bool). t && f k) (sym (ltb_more k n))
  where
    at : (s t u : Bool) → eqb k n ≡ t → f n ≡ u → (s && f k || t && u) ≡ ((s || t) && f k)
    at true true u e q = let z : f k ≡ u = ap f (eqb-true k n e) ∙ q in rw z (or_self u)
    at true false u e q = or-false (f k)
    at false true u e q = sym (ap f (eqb-true k n e) ∙ q)
    at false false u e q = refl

    more : (u : Bool) → f n ≡ u → test_bit (bits_below f n) k ≡ (ltb k n && f k) → test_bit (bits_below f n + cond u (2 ^ n) 0) k ≡ ((ltb k n || eqb k n) && f k)
    more true q ih =
        ap (λ (x : ℕ). test_bit x k) (add_is_insert (bits_below f n) n (test_above (bits_below f n) n n (bits_below_lt f n) (omega arith)))
        ∙ test_insert (bits_below f n) n k
        ∙ ap₂ (λ (s t : Bool). s || t) ih (sym (and-true (eqb k n)))
        ∙ at (ltb k n) (eqb k n) true refl q
    more false q ih =
        ap (λ (x : ℕ). test_bit x k) (let z : bits_below f n + 0 ≡ bits_below f n = omega arith in z) ∙ ih
        ∙ sym (ap (λ (t : Bool). ltb k n && f k || t) (and-false (eqb k n)) ∙ or-false (ltb k n && f k))
        ∙ at (ltb k n) (eqb k n) false refl q

-- ---- maps that share a member

-- Some number is a member exactly if the map is not 0: a member rules out 0, and a map with none is equal to 0.
pub any_member : (n m : ℕ) → m < 2 ^ n → any_below (test_bit m) n ≡ not (eqb m 0)
any_member n m h = by (any_below (test_bit m) n) refl
  where
    full : (t : Bool) → eqb m 0 ≡ t → (k : ℕ) × (k < n) × (test_bit m k ≡ true) → true ≡ not t
    full true e w = sym w.2 ∙ ap (λ (x : ℕ). test_bit x w.0) (eqb-true m 0 e) ∙ test_zero w.0
    full false e w = refl

    by : (t : Bool) → any_below (test_bit m) n ≡ t → t ≡ not (eqb m 0)
    by true e = full (eqb m 0) refl (any_below_has (test_bit m) n e)
    by false e =
        let z : m ≡ 0 = same_below n m 0 h (pow_pos n) (λ k l. any_below_none (test_bit m) n e k l ∙ sym (test_zero k)) in
        sym (ap not (eq-eqb m 0 z))

-- Two maps meet exactly if their intersection is not empty.
pub any_shared : (n a b : ℕ) → bit_and a b < 2 ^ n → any_below (λ (k : ℕ). test_bit a k && test_bit b k) n ≡ not (eqb (bit_and a b) 0)
any_shared n a b h = ap (λ (f : ℕ → Bool). any_below f n) (fun_ext (λ k. sym (test_and a b k))) ∙ any_member n (bit_and a b) h

-- ---- the number of members, and the least

-- Counted from below: the digit n of m stands before the n digits below it.
count_below : (n m : ℕ) → length (select_below (test_bit m) n) ≡ ones (m % 2 ^ n)
unfolding select_below ones
count_below zero m = ap ones (let z : 0 ≡ m % 2 ^ 0 = omega arith in z)
count_below (suc n) m =
    length-append (select_below (test_bit m) n) (cond (test_bit m n) (n ∷ []) [])
    ∙ ap₂ (λ (x y : ℕ). x + y) (count_below n m) (ap (λ (t : Bool). length (cond t (n ∷ []) [])) (by_digit m n) ∙ one (digit m n) (omega arith))
    ∙ sym (ap ones (ap (λ (x : ℕ). m % 2 ^ x) (let e : suc n ≡ 1 + n = omega arith in e) ∙ mod-pow-add m 1 n) ∙ ones_cat n (digit m n) (m % 2 ^ n) (mod-lt m (pow_pos n)) ∙ (let c : ones (digit m n) + ones (m % 2 ^ n) ≡ ones (m % 2 ^ n) + ones (digit m n) = omega arith in c))
  where
    one : (x : ℕ) → x < 2 → length (cond (eqb x 1) (n ∷ []) []) ≡ ones x
    one zero h = refl
    one (suc zero) h = refl
    one (suc (suc x)) h = absurd (let f : ⊥ = omega arith in f)

-- A number of n digits has no members from n on.
pub count_members : (n m : ℕ) → m < 2 ^ n → length (select_below (test_bit m) n) ≡ ones m
count_members n m h = count_below n m ∙ ap ones (mod-eq_of_lt h)

-- The least member of a map that is not empty is below its width, stands, and all below it is absent. Each by induction on the width: the lowest digit stands, or the half has the answer.
pub lowest_lt : (n m : ℕ) → m < 2 ^ n → 0 < m → count_trailing_zeros n m < n
unfolding count_trailing_zeros
lowest_lt zero m h l = omega arith
lowest_lt (suc n) m h l = by (m % 2) refl (λ b. lowest_lt n (m / 2) (let p : 2 ^ suc n ≡ 2 ^ n * 2 = pow-suc 2 n in omega arith) b)
  where
    by : (x : ℕ) → m % 2 ≡ x → (0 < m / 2 → count_trailing_zeros n (m / 2) < n) → under x (count_trailing_zeros n (m / 2)) < suc n
    by zero e ih = let r : count_trailing_zeros n (m / 2) < n = ih (omega arith) in omega arith
    by (suc x) e ih = omega arith

pub lowest_stands : (n m : ℕ) → m < 2 ^ n → 0 < m → test_bit m (count_trailing_zeros n m) ≡ true
unfolding count_trailing_zeros
lowest_stands zero m h l = absurd (let f : ⊥ = omega arith in f)
lowest_stands (suc n) m h l = by (m % 2) refl (λ b. lowest_stands n (m / 2) (let p : 2 ^ suc n ≡ 2 ^ n * 2 = pow-suc 2 n in omega arith) b)
  where
    by : (x : ℕ) → m % 2 ≡ x → (0 < m / 2 → test_bit (m / 2) (count_trailing_zeros n (m / 2)) ≡ true) → test_bit m (under x (count_trailing_zeros n (m / 2))) ≡ true
    by zero e ih = half_test m (count_trailing_zeros n (m / 2)) ∙ ih (omega arith)
    by (suc x) e ih = low_test m ∙ eq-eqb (m % 2) 1 (omega arith)

pub lowest_least : (n m k : ℕ) → k < count_trailing_zeros n m → test_bit m k ≡ false
unfolding count_trailing_zeros
lowest_least zero m k h = absurd (not-suc-le-zero h)
lowest_least (suc n) m zero h = by (m % 2) refl h
  where
    by : (x : ℕ) → m % 2 ≡ x → 0 < under x (count_trailing_zeros n (m / 2)) → test_bit m 0 ≡ false
    by zero e l = low_test m ∙ ne_eqb (m % 2) 1 (omega arith)
    by (suc x) e l = absurd (not-suc-le-zero l)
lowest_least (suc n) m (suc k) h = half_test m k ∙ by (m % 2) h (lowest_least n (m / 2) k)
  where
    by : (x : ℕ) → suc k < under x (count_trailing_zeros n (m / 2)) → (k < count_trailing_zeros n (m / 2) → test_bit (m / 2) k ≡ false) → test_bit (m / 2) k ≡ false
    by zero l ih = ih (omega arith)
    by (suc x) l ih = absurd (not-suc-le-zero l)

-- The greatest member of a map that is not empty: the map is from 2 ^ j on and below twice that, so that its quotient by 2 ^ j is 1, and above j there is no member.
pub highest_place : (n m : ℕ) → m < 2 ^ n → 0 < m → (j : ℕ) × (count_leading_zeros n m + suc j ≡ n) × (test_bit m j ≡ true) × ((k : ℕ) → j < k → test_bit m k ≡ false)
unfolding test_bit
highest_place n m h l =
    let t = leading_top n m l h in (t.0, t.1, stands t.0 t.2 t.3, λ k b. test_above m (suc t.0) k t.3 b)
  where
    stands : (j : ℕ) → 2 ^ j ≤ m → m < 2 ^ suc j → test_bit m j ≡ true
    stands j above below =
        let p : 2 ^ suc j ≡ 2 ^ j * 2 = pow-suc 2 j in
        let q : m / 2 ^ j < 2 = (div-lt_iff_lt-mul (pow_pos j)).1 (omega arith) in
        let r : m / 2 ^ j < 1 → m < 1 * 2 ^ j = (div-lt_iff_lt-mul (pow_pos j)).0 in
        let s : m / 2 ^ j < 1 → ⊥ = λ z. let g : m < 1 * 2 ^ j = r z in omega arith in
        let one : m / 2 ^ j ≡ 1 = omega arith in
        ap (λ (x : ℕ). eqb (x % 2) 1) one

-- One less than a map has the members above the least one, the numbers below it, and not the least one. By induction on the least member: it is the lowest digit, or that of the half.
less_one : (k m j : ℕ) → test_bit m k ≡ true → ((i : ℕ) → i < k → test_bit m i ≡ false) → (test_bit m j && test_bit (m - 1) j) ≡ (test_bit m j && not (eqb j k))
less_one zero m zero stands least =
    let odd : m % 2 ≡ 1 = eqb-true (m % 2) 1 (sym (low_test m) ∙ stands) in
    ap₂ (λ (s t : Bool). s && t) stands (low_test (m - 1) ∙ ne_eqb ((m - 1) % 2) 1 (omega arith)) ∙ sym (ap₂ (λ (s t : Bool). s && not t) stands (eq-eqb 0 0 refl))
less_one zero m (suc j) stands least =
    let odd : m % 2 ≡ 1 = eqb-true (m % 2) 1 (sym (low_test m) ∙ stands) in
    ap (λ (t : Bool). test_bit m (suc j) && t) (half_test (m - 1) j ∙ ap (λ (x : ℕ). test_bit x j) (let e : (m - 1) / 2 ≡ m / 2 = omega arith in e) ∙ sym (half_test m j))
    ∙ and_self (test_bit m (suc j))
    ∙ sym (ap (λ (t : Bool). test_bit m (suc j) && not t) (ne_eqb (suc j) 0 (λ e. omega arith)) ∙ and-true (test_bit m (suc j)))
less_one (suc k) m zero stands least = let z : test_bit m 0 ≡ false = least 0 (omega arith) in rw z
less_one (suc k) m (suc j) stands least =
    let even : m % 2 ≡ 1 → ⊥ = eqb-false (m % 2) 1 (sym (low_test m) ∙ least 0 (omega arith)) in
    ap₂ (λ (s t : Bool). s && t) (half_test m j) (half_test (m - 1) j ∙ ap (λ (x : ℕ). test_bit x j) (let e : (m - 1) / 2 ≡ m / 2 - 1 = omega arith in e))
    ∙ less_one k (m / 2) j (sym (half_test m k) ∙ stands) (λ i b. sym (half_test m i) ∙ least (suc i) (omega arith))
    ∙ sym (ap₂ (λ (s t : Bool). s && not t) (half_test m j) (lib.Dec.eqb-suc-suc j k))

-- So what both have is the map without its least member.
pub test_without_lowest : (m k j : ℕ) → test_bit m k ≡ true → ((i : ℕ) → i < k → test_bit m i ≡ false) → test_bit (bit_and m (m - 1)) j ≡ (test_bit m j && not (eqb j k))
test_without_lowest m k j stands least = test_and m (m - 1) j ∙ less_one k m j stands least

-- ---- at 64 bits

-- `1 << k`
pub one_shl : (k : ℕ) → k < 64 → 1 * 2 ^ k % 2 ^ 64 ≡ 2 ^ k
one_shl k h = shl_exact {a = 1} 1 k 64 (omega arith) (omega arith) ∙ one-mul (2 ^ k)

-- `m | (1 << k)`
pub test_insert_shl : (m k j : ℕ) → k < 64 → test_bit (bit_or m (1 * 2 ^ k % 2 ^ 64)) j ≡ (test_bit m j || eqb j k)
test_insert_shl m k j h = ap (λ (x : ℕ). test_bit (bit_or m x) j) (one_shl k h) ∙ test_insert m k j

-- `m & !(1 << k)`
pub test_remove_shl : (m k j : ℕ) → m < 2 ^ 64 → k < 64 → test_bit (bit_and m (2 ^ 64 - 1 - 1 * 2 ^ k % 2 ^ 64)) j ≡ (test_bit m j && not (eqb j k))
test_remove_shl m k j hm h =
    ap (λ (x : ℕ). test_bit (bit_and m (2 ^ 64 - 1 - x)) j) (one_shl k h)
    ∙ test_minus 64 m (2 ^ k) j hm (pow-lt h)
    ∙ ap (λ (t : Bool). test_bit m j && not t) (test_pow k j)
