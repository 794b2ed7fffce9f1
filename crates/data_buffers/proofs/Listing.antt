-- Texts one after the other: where they are the same, as a list's texts, and how long they can be.
use mathlib.Core.Path.{◌≡◌, refl, sym, ap₂, ◌∙◌}
use mathlib.Core.Bool.{Bool, true, false, cond}
use mathlib.Core.List.{List, [], ◌∷◌, ◌++◌, flat_map, append-nil}
use Prim.Native.Nat.{ℕ, zero, suc, ◌*◌, ◌≤◌, ◌<◌}
use native.Mathlib.Omega.{arith}
use native.Mathlib.Nat.{suc-mul}
use lib.ListN.{length, length-append}
use Rattle.definitions.specs.Basics.{tabulate, select_below}
use Rattle.laws.proofs.Lists.{flatMap_append}
use Rattle.data_buffers.specs.Texts.{texts}

-- Texts that are the same below n, run together.
pub texts_same : (f g : ℕ → List ℕ) (n : ℕ) → ((k : ℕ) → k < n → f k ≡ g k) → texts f n ≡ texts g n
unfolding texts
texts_same f g zero h = refl
texts_same f g (suc n) h = ap₂ (λ (x y : List ℕ). x ++ y) (texts_same f g n (λ k b. h k (omega arith))) (h n (omega arith))

-- The texts of all numbers below n, and of those that pass a test. Induction on n.
flatMap_one : {A : Type 0} (f : A → List ℕ) (x : A) → flat_map f (x ∷ []) ≡ f x
unfolding flat_map
flatMap_one f x = append-nil (f x)

pub texts_all : (f : ℕ → List ℕ) (n : ℕ) → texts f n ≡ flat_map f (tabulate (λ k. k) n)
unfolding texts tabulate flat_map
texts_all f zero = refl
texts_all f (suc n) = sym (flatMap_append f (tabulate (λ k. k) n) (n ∷ []) ∙ ap₂ (λ (x y : List ℕ). x ++ y) (sym (texts_all f n)) (flatMap_one f n))

pub texts_select : (test : ℕ → Bool) (f : ℕ → List ℕ) (n : ℕ) → texts (λ k. cond (test k) (f k) []) n ≡ flat_map f (select_below test n)
unfolding texts select_below flat_map
texts_select test f zero = refl
texts_select test f (suc n) = sym (flatMap_append f (select_below test n) (cond (test n) (n ∷ []) []) ∙ ap₂ (λ (x y : List ℕ). x ++ y) (sym (texts_select test f n)) (last (test n)))
  where
    last : (b : Bool) → flat_map f (cond b (n ∷ []) []) ≡ cond b (f n) []
    last true = flatMap_one f n
    last false = refl

-- n texts of at most m bytes.
pub texts_limit : (f : ℕ → List ℕ) (m n : ℕ) → ((k : ℕ) → k < n → length (f k) ≤ m) → length (texts f n) ≤ n * m
unfolding texts
texts_limit f m zero h = omega arith
texts_limit f m (suc n) h = omega (arith, length-append (texts f n) (f n), texts_limit f m n (λ k b. h k (omega arith)), h n (omega arith), suc-mul n m)

-- A choice between a text and none.
pub cond_limit : (b : Bool) (s : List ℕ) (m : ℕ) → length s ≤ m → length (cond b s []) ≤ m
cond_limit true s m h = h
cond_limit false s m h = omega arith

pub cond_limit_else : (b : Bool) (s : List ℕ) (m : ℕ) → length s ≤ m → length (cond b [] s) ≤ m
cond_limit_else true s m h = omega arith
cond_limit_else false s m h = h
