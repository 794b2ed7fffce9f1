-- More laws of `any`, `any_below` and `all_below`: two lists, one element more, tests that agree.
use mathlib.Core.Path.{◌≡◌, refl, sym, ap, ◌∙◌}
use mathlib.Core.Bool.{Bool, true, false, ◌&&◌, ◌||◌, or_assoc, or-false}
use mathlib.Core.List.{List, [], ◌∷◌, ◌++◌, map}
use Prim.Native.Nat.{ℕ, zero, suc, ◌+◌, ◌<◌}
use native.Mathlib.Omega.{arith}
use native.Mathlib.Numerals.{add-one}
use lib.ListN.{length, get_or, take}
use lib.Seq.{take-suc}
use Rattle.definitions.specs.Basics.{any, any_below, all_below}

-- Two lists, one after the other; and one element more, at the end.
pub any_append : {A : Type 0} (test : A → Bool) (xs ys : List A) → any test (xs ++ ys) ≡ (any test xs || any test ys)
unfolding any
any_append test [] ys = refl
any_append test (x ∷ xs) ys = ap (λ (b : Bool). test x || b) (any_append test xs ys) ∙ sym (or_assoc (test x) (any test xs) (any test ys))

pub any_snoc : {A : Type 0} (test : A → Bool) (xs : List A) (x : A) → any test (xs ++ x ∷ []) ≡ (any test xs || test x)
unfolding any
any_snoc test xs x = any_append test xs (x ∷ []) ∙ ap (λ (b : Bool). any test xs || b) (or-false (test x))

-- Tests that agree on the numbers below n give the same answer.
pub any_below_same : (t u : ℕ → Bool) (n : ℕ) → ((k : ℕ) → k < n → t k ≡ u k) → any_below t n ≡ any_below u n
unfolding any_below
any_below_same t u zero h = refl
any_below_same t u (suc n) h =
    ap (λ (b : Bool). b || t n) (any_below_same t u n (λ k b. h k (omega arith))) ∙ ap (λ (b : Bool). any_below u n || b) (h n (omega arith))

pub all_below_same : (t u : ℕ → Bool) (n : ℕ) → ((k : ℕ) → k < n → t k ≡ u k) → all_below t n ≡ all_below u n
unfolding all_below
all_below_same t u zero h = refl
all_below_same t u (suc n) h =
    ap (λ (b : Bool). b && t n) (all_below_same t u n (λ k b. h k (omega arith))) ∙ ap (λ (b : Bool). all_below u n && b) (h n (omega arith))

-- One number more.
pub any_below_more : (test : ℕ → Bool) (n : ℕ) → any_below test n ≡ false → test n ≡ false → any_below test (n + 1) ≡ false
unfolding any_below
any_below_more test n h t = ap (any_below test) (add-one n) ∙ ap (λ (b : Bool). b || test n) h ∙ t

pub any_below_nothing : (test : ℕ → Bool) → any_below test 0 ≡ false
unfolding any_below
any_below_nothing test = refl

pub all_below_more : (test : ℕ → Bool) (n : ℕ) → all_below test n ≡ true → test n ≡ true → all_below test (n + 1) ≡ true
unfolding all_below
all_below_more test n h t = ap (all_below test) (add-one n) ∙ ap (λ (b : Bool). b && test n) h ∙ t

pub all_below_nothing : (test : ℕ → Bool) → all_below test 0 ≡ true
unfolding all_below
all_below_nothing test = refl

-- One element more of a list that is worked on from its front.
pub map_take_more : {A B : Type 0} (f : A → B) (l : List A) (i : ℕ) (z : A) → i < length l → map f (take (i + 1) l) ≡ map f (take i l) ++ f (get_or l i z) ∷ []
map_take_more f l i z b = ap (λ (j : ℕ). map f (take j l)) (add-one i) ∙ ap (map f) (take-suc l i z b) ∙ map_snoc (take i l) (get_or l i z)
  where
    map_snoc : (xs : List _) (x : _) → map f (xs ++ x ∷ []) ≡ map f xs ++ f x ∷ []
    map_snoc [] x = refl
    map_snoc (y ∷ xs) x = ap (λ r. f y ∷ r) (map_snoc xs x)
