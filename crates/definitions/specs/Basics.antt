-- What the definitions are written with: tests over lists and over the numbers below n, and answers that may be refusals. No term of document 01 stands here.
use Rattle.std.specs.Prelude.{Bool, true, false, cond, ◌&&◌, ◌||◌, List, [], ◌∷◌, ◌++◌, ℕ, zero, suc, ◌+◌, ◌/◌, ◌%◌, ◌^◌, max, eqb}

-- Whether some, or every, element of a list passes a test.
unfoldable pub any : {A : Type 0} → (A → Bool) → List A → Bool
any test [] = false
any test (x ∷ xs) = test x || any test xs

unfoldable pub all : {A : Type 0} → (A → Bool) → List A → Bool
all test [] = true
all test (x ∷ xs) = test x && all test xs

-- The elements of a list that do not pass a test, in their order.
unfoldable pub without : {A : Type 0} → (A → Bool) → List A → List A
without test [] = []
without test (x ∷ xs) = cond (test x) [] (x ∷ []) ++ without test xs

-- Whether some, or every, number below n passes a test.
unfoldable pub any_below : (ℕ → Bool) → ℕ → Bool
any_below test zero = false
any_below test (suc n) = any_below test n || test n

unfoldable pub all_below : (ℕ → Bool) → ℕ → Bool
all_below test zero = true
all_below test (suc n) = all_below test n && test n

-- f 0, f 1, up to f (n - 1); and the numbers below n that pass a test, rising.
unfoldable pub tabulate : {A : Type 0} → (ℕ → A) → ℕ → List A
tabulate f zero = []
tabulate f (suc n) = tabulate f n ++ f n ∷ []

unfoldable pub select_below : (ℕ → Bool) → ℕ → List ℕ
select_below test zero = []
select_below test (suc n) = select_below test n ++ cond (test n) (n ∷ []) []

-- The largest f k over the k below n that pass a test; 0 where none does.
unfoldable pub largest : (ℕ → Bool) → (ℕ → ℕ) → ℕ → ℕ
largest test f zero = 0
largest test f (suc n) = max (largest test f n) (cond (test n) (f n) 0)

-- f 0 + f 1 + … + f (n - 1).
unfoldable pub sum_below : (ℕ → ℕ) → ℕ → ℕ
sum_below f zero = 0
sum_below f (suc n) = sum_below f n + f n

-- A map of bits: whether bit k stands in m, and the map of the numbers below n that pass a test.
unfoldable pub test_bit : ℕ → ℕ → Bool
test_bit m k = eqb (m / 2 ^ k % 2) 1

unfoldable pub bits_below : (ℕ → Bool) → ℕ → ℕ
bits_below test zero = 0
bits_below test (suc n) = bits_below test n + cond (test n) (2 ^ n) 0

-- An answer, or a refusal by its number in document 01.
pub data Outcome (A : Type 0) : Type 0 where
  given : A → Outcome A
  refused : ℕ → Outcome A

-- A refusal where a test passes, else the rest; and what comes after an answer.
unfoldable pub refuse_if : {A : Type 0} → Bool → ℕ → Outcome A → Outcome A
refuse_if true k rest = refused k
refuse_if false k rest = rest

unfoldable pub when_given : {A B : Type 0} → Outcome A → (A → Outcome B) → Outcome B
when_given (given a) f = f a
when_given (refused k) f = refused k
