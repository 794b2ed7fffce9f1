-- Truth values: their two cases, and what a conjunction, a disjunction and a negation say.
use mathlib.Core.Path.{◌≡◌, refl, sym, ap, ◌∙◌}
use mathlib.Core.Bool.{Bool, true, false, cond, not, ◌&&◌, ◌||◌, and-true, and-false, true≢false, false≢true}
use mathlib.Core.Logic.{◌⊎◌, inl, inr, ◌≢◌, ◌↔◌}
use Prim.Native.Nat.{ℕ}
use lib.Dec.{eqb}
use borrow.Author.Tests.{eq-eqb, eqb-true}
use native.Mathlib.Decide.{ℕ_discrete}

unfoldable pub bool_cases : (b : Bool) → (b ≡ true) ⊎ (b ≡ false)
bool_cases true = inl refl
bool_cases false = inr refl

-- Two numbers are the same or differ.
pub same_or_not : (m n : ℕ) → (m ≡ n) ⊎ (m ≢ n)
same_or_not m n = go (ℕ_discrete m n)
  where
    go : Dec (m ≡ n) → (m ≡ n) ⊎ (m ≢ n)
    go (yes e) = inl e
    go (no e) = inr e

-- A test cannot pass and fail.
pub both_ways : {b : Bool} → b ≡ true → b ≡ false → ⊥
both_ways t f = true≢false (sym t ∙ f)

pub and_split : (a b : Bool) → (a && b) ≡ true → (a ≡ true) × (b ≡ true)
and_split true b h = (refl, h)
and_split false b h = absurd (false≢true h)

pub and_join : {a b : Bool} → a ≡ true → b ≡ true → (a && b) ≡ true
and_join {a = true} ha hb = hb
and_join {a = false} ha hb = ha

pub and_fails : (a b : Bool) → (a && b) ≡ false → (a ≡ false) ⊎ (b ≡ false)
and_fails true b h = inr h
and_fails false b h = inl h

pub or_split : (a b : Bool) → (a || b) ≡ true → (a ≡ true) ⊎ (b ≡ true)
or_split true b h = inl refl
or_split false b h = inr h

pub or_left : {a : Bool} (b : Bool) → a ≡ true → (a || b) ≡ true
or_left {a = true} b h = refl
or_left {a = false} b h = absurd (false≢true h)

pub or_right : (a : Bool) {b : Bool} → b ≡ true → (a || b) ≡ true
or_right true h = refl
or_right false h = h

pub or_neither : (a b : Bool) → ((a || b) ≡ false) ↔ ((a ≡ false) × (b ≡ false))
or_neither true b = (λ h. absurd (true≢false h), λ h. h.0)
or_neither false b = (λ h. (refl, h), λ h. h.1)

pub neither : {a b : Bool} → a ≡ false → b ≡ false → (a || b) ≡ false
neither {a} {b} h k = (or_neither a b).1 (h, k)

-- A test that cannot pass fails.
pub not_passing : (b : Bool) → b ≢ true → b ≡ false
not_passing true h = absurd (h refl)
not_passing false h = refl

-- A mark that does not stand later did not stand before, where marks stay.
pub mark_back : {b c : Bool} → (b ≡ true → c ≡ true) → c ≡ false → b ≡ false
mark_back {b} k h = not_passing b (λ t. both_ways (k t) h)

-- A test with another taken out of it: all of it stays where that one fails, and is gone where it passes.
pub stays : (x y : Bool) → y ≡ false → (x && not y) ≡ x
stays x y q = ap (λ (t : Bool). x && not t) q ∙ and-true x

pub gone : (x y : Bool) → y ≡ true → (x && not y) ≡ false
gone x y q = ap (λ (t : Bool). x && not t) q ∙ and-false x

-- A choice by a test whose value is known.
pub cond_true : {A : Type 0} {b : Bool} (x y : A) → b ≡ true → cond b x y ≡ x
cond_true x y h = ap (λ b. cond b x y) h

pub cond_false : {A : Type 0} {b : Bool} (x y : A) → b ≡ false → cond b x y ≡ y
cond_false x y h = ap (λ b. cond b x y) h

pub cond_either : {A : Type 0} (b : Bool) (x : A) → cond b x x ≡ x
cond_either true x = refl
cond_either false x = refl

-- Two tests that pass for the same reasons are equal.
pub same_test : (a b : Bool) → (a ≡ true → b ≡ true) → (b ≡ true → a ≡ true) → a ≡ b
same_test true b f g = sym (f refl)
same_test false true f g = g refl
same_test false false f g = refl

-- Two tests that are found to agree.
pub same_truth : (a b : Bool) → cond a b (not b) ≡ true → a ≡ b
same_truth true b h = sym h
same_truth false true h = h
same_truth false false h = refl

-- Numbers compared either way round.
pub eqb_turned : (x y : ℕ) → eqb x y ≡ eqb y x
eqb_turned x y = same_test (eqb x y) (eqb y x) (λ h. eq-eqb y x (sym (eqb-true x y h))) (λ h. eq-eqb x y (sym (eqb-true y x h)))

-- A test that says whether P holds decides P.
pub test_decides : {P : Type 0} {b : Bool} → ((b ≡ true) ↔ P) → Dec P
test_decides {P} {b} h = go (bool_cases b)
  where
    go : (b ≡ true) ⊎ (b ≡ false) → Dec P
    go (inl t) = yes (h.0 t)
    go (inr f) = no (λ x. both_ways (h.1 x) f)
