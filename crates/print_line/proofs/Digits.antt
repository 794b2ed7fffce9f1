-- Decimal digits: a number is its tenth part and its last digit, and how many digits there are.
use mathlib.Core.Path.{◌≡◌, refl, sym, ap, ◌∙◌}
use mathlib.Core.Bool.{Bool, true, false, cond}
use mathlib.Core.List.{List, [], ◌∷◌, ◌++◌}
use Prim.Native.Nat.{ℕ, zero, suc, ◌+◌, ◌/◌, ◌%◌, ◌^◌, ◌≤◌, ◌<◌}
use native.Mathlib.Omega.{arith}
use native.Mathlib.Decide.{dec_lt}
use native.Mathlib.Nat.{pow-suc}
use lib.Dec.{ltb}
use lib.ListN.{length, length-append}
use borrow.Author.Tests.{lt-ltb, le-ltb}
use Rattle.laws.proofs.Bools.{cond_true, cond_false}
use Rattle.definitions.specs.Output.{digits, decimal, field}

-- The fuel bounds the digits.
pub digits_length : (k n : ℕ) → length (digits k n) ≤ k
unfolding digits
digits_length zero n = omega arith
digits_length (suc k) n = go (ltb n 10) (digits_length k (n / 10))
  where
    go : (b : Bool) → length (digits k (n / 10)) ≤ k → length (cond b [] (digits k (n / 10)) ++ (48 + n % 10) ∷ []) ≤ suc k
    go true h = omega arith
    go false h = omega (arith, length-append (digits k (n / 10)) ((48 + n % 10) ∷ []))

-- One more than enough fuel changes nothing.
digits_more : (k n : ℕ) → n < 10 ^ suc k → digits (suc (suc k)) n ≡ digits (suc k) n
unfolding digits
digits_more zero n h = ap (λ (l : List ℕ). l ++ (48 + n % 10) ∷ []) (cond_true [] (digits 1 (n / 10)) (lt-ltb n 10 (omega arith)) ∙ sym (cond_true [] [] (lt-ltb n 10 (omega arith))))
digits_more (suc k) n h = ap (λ (l : List ℕ). cond (ltb n 10) [] l ++ (48 + n % 10) ∷ []) (digits_more k (n / 10) (omega (arith, pow-suc 10 (suc k))))

pub decimal_digit : (n : ℕ) → n < 10 → decimal n ≡ (48 + n) ∷ []
unfolding decimal digits
decimal_digit n b =
    let e : n % 10 ≡ n = omega arith in
    ap (λ (l : List ℕ). l ++ (48 + n % 10) ∷ []) (cond_true [] (digits 9 (n / 10)) (lt-ltb n 10 b)) ∙ ap (λ (d : ℕ). (48 + d) ∷ []) e

pub decimal_tenth : (n : ℕ) → 10 ≤ n → n < 4294967296 → decimal n ≡ decimal (n / 10) ++ (48 + n % 10) ∷ []
unfolding decimal digits
decimal_tenth n b h =
    let small : n / 10 < 1000000000 = omega arith in
    ap (λ (l : List ℕ). l ++ (48 + n % 10) ∷ []) (cond_false [] (digits 9 (n / 10)) (le-ltb n 10 b) ∙ sym (digits_more 8 (n / 10) small))

-- Ten digits at most, and two below a hundred.
pub decimal_length : (n : ℕ) → length (decimal n) ≤ 10
unfolding decimal
decimal_length n = digits_length 10 n

pub decimal_short : (n : ℕ) → n < 100 → length (decimal n) ≤ 2
decimal_short n h = go (dec_lt n 10)
  where
    go : Dec (n < 10) → length (decimal n) ≤ 2
    go (yes b) = omega (arith, ap length (decimal_digit n b))
    go (no b) =
        omega (arith, ap length (decimal_tenth n (omega arith) (omega arith)), length-append (decimal (n / 10)) ((48 + n % 10) ∷ []), ap length (decimal_digit (n / 10) (omega arith)))

-- A space and the digits.
pub field_parts : (n : ℕ) → field n ≡ 32 ∷ [] ++ decimal n
unfolding field
field_parts n = refl

pub field_length : (n : ℕ) → length (field n) ≤ 11
unfolding field
field_length n = omega (arith, decimal_length n)

pub field_short : (n : ℕ) → n < 100 → length (field n) ≤ 3
unfolding field
field_short n h = omega (arith, decimal_short n h)
