-- A list whose front is written, an element at a time or as a part that is lent; the rest stays as it was. Assumes nothing.
use mathlib.Core.Path.{◌≡◌, refl, sym, ap, ap₂, ◌∙◌}
use mathlib.Core.List.{List, [], ◌∷◌, ◌++◌, append_assoc, append-nil}
use Prim.Native.Nat.{ℕ, suc, ◌+◌, ◌-◌, ◌<◌, ◌≤◌}
use native.Mathlib.Omega.{arith}
use native.Mathlib.Numerals.{add-one}
use borrow.Rule.Slice.PartMut.{put_mid}
use lib.ListN.{length, get_or, set, take, drop, length-append, get_or-append}
use lib.Seq.{get_or-append-add, get_or-drop, drop-cons, set_at, ext_get_or, take_at, drop_at, take-length, drop-length}
use Rattle.definitions.specs.Basics.{tabulate}
use Rattle.laws.proofs.Tests.{tabulate_at, tabulate_length}

-- The first k elements are f's, the others as they were.
abbrev pub laid : {A : Type 0} → (ℕ → A) → ℕ → List A → List A
laid f k l = tabulate f k ++ drop k l

module _ {A : Type 0} (f : ℕ → A) where
  pub laid_none : (l : List A) → l ≡ laid f 0 l
  unfolding tabulate
  laid_none l = refl

  -- The store at k writes f k where the list as it was begins.
  pub laid_more : (k : ℕ) (l r : List A) (x z : A) → k < length l → r ≡ laid f k l → x ≡ f k → set r k x ≡ laid f (k + 1) l
  unfolding tabulate
  laid_more k l r x z h e s =
      ap₂ (λ (m : List A) (y : A). set m k y) e s
      ∙ ap (λ (m : List A). set (tabulate f k ++ m) k (f k)) (drop-cons l k z h)
      ∙ set_at (tabulate f k) _ (drop (suc k) l) (f k) k (tabulate_length f k)
      ∙ rw (add-one k) (sym (append_assoc (tabulate f k) (f k ∷ []) (drop (suc k) l)))

  pub laid_at : (k : ℕ) (l : List A) (i : ℕ) (z : A) → i < k → get_or (laid f k l) i z ≡ f i
  laid_at k l i z h = get_or-append (tabulate f k) (drop k l) z i (rw tabulate_length h) ∙ tabulate_at f k i z h

  pub laid_past : (k : ℕ) (l : List A) (i : ℕ) (z : A) → k ≤ i → get_or (laid f k l) i z ≡ get_or l i z
  laid_past k l i z h =
      let e : i ≡ length (tabulate f k) + (i - k) = omega (arith, tabulate_length f k) in
      ap (λ (j : ℕ). get_or (laid f k l) j z) e ∙ get_or-append-add (tabulate f k) (drop k l) (i - k) z
      ∙ get_or-drop k l (i - k) z ∙ ap (λ (j : ℕ). get_or l j z) (let q : k + (i - k) ≡ i = omega arith in q)

-- The rest of a list, from a on, lent and given back with y at its front.
pub put_rest : {A : Type 0} (p l t y new : List A) (a n : ℕ) → length p ≡ a → t ≡ p ++ l → new ≡ y ++ drop n (take (length t - a) (drop a t)) → put_mid a (length t - a) t new ≡ p ++ (y ++ drop n l)
put_rest {A} p l t y new a n e f g =
    let rest : drop a t ≡ l = ap (drop a) f ∙ drop_at p l a e in
    let front : take a t ≡ p = ap (take a) f ∙ take_at p l a e in
    let long : length t - a ≡ length l = omega (arith, ap length f, length-append p l) in
    let mid : take (length t - a) (drop a t) ≡ l = ap₂ take long rest ∙ take-length l in
    let none : drop (length t - a) (drop a t) ≡ [] = ap₂ drop long rest ∙ drop-length l in
    ap₂ (λ (x z : List A). x ++ z) front (ap₂ (λ (x z : List A). x ++ z) (g ∙ ap (λ (x : List A). y ++ drop n x) mid) none ∙ append-nil (y ++ drop n l))

-- A list is the table of its elements.
pub tabulate_list : {A : Type 0} (l : List A) (f : ℕ → A) (n : ℕ) (z : A) → length l ≡ n → ((i : ℕ) → i < n → f i ≡ get_or l i z) → tabulate f n ≡ l
tabulate_list l f n z e h =
    ext_get_or z (tabulate f n) l (tabulate_length f n ∙ sym e)
    (λ i b. let c : i < n = omega (arith, tabulate_length f n) in tabulate_at f n i z c ∙ h i c)
