-- Laws of lists: elements by their place; a list rearranged; a list without what passes a test; lists of lists that are run together.
use mathlib.Core.Path.{◌≡◌, refl, sym, ap, ap₂, ◌∙◌}
use mathlib.Core.Bool.{Bool, true, false, cond, true≢false}
use mathlib.Core.List.Memᴰ
use mathlib.Core.List.{List, [], ◌∷◌, ◌++◌, append_assoc, append-nil, map, flat_map, Memᴰ, Permᴰ}
use mathlib.Core.Logic.{◌⊎◌, inl, inr}
use Prim.Native.Nat.{ℕ, zero, suc, ◌<◌}
use native.Mathlib.Omega.{arith}
use lib.ListN.{length, get_or, replicate}
use Rattle.definitions.specs.Basics.{without}

-- The element at a place of a list is in it. Induction on the list.
pub mem_at : {A : Type 0} (l : List A) (i : ℕ) (z : A) → i < length l → Memᴰ (get_or l i z) l
mem_at [] i z h = absurd (omega arith)
mem_at (x ∷ l) zero z h = Memᴰ.head refl
mem_at (x ∷ l) (suc i) z h = Memᴰ.tail (mem_at l i z (omega arith))

-- What stands at a place of a list does not depend on what stands past it. Induction on the list.
pub inside_same : {A : Type 0} (l : List A) (i : ℕ) (y z : A) → i < length l → get_or l i y ≡ get_or l i z
inside_same [] i y z h = absurd (omega arith)
inside_same (x ∷ l) zero y z h = refl
inside_same (x ∷ l) (suc i) y z h = inside_same l i y z (omega arith)

-- An element of a list is at some place of it.
pub record Place {A : Type 0} (l : List A) (z x : A) : Type 0 where
  pub index : ℕ
  pub inside : index < length l
  pub here : get_or l index z ≡ x

pub mem_place : {A : Type 0} (l : List A) (z : A) {x : A} → Memᴰ x l → Place l z x
mem_place [] z m = absurd (Memᴰ.not-nil m)
mem_place (y ∷ l) z {x} m = go (Memᴰ.cases_cons m) (mem_place l z)
  where
    go : (x ≡ y) ⊎ Memᴰ x l → (Memᴰ x l → Place l z x) → Place (y ∷ l) z x
    go (inl e) below = record { index = 0; inside = omega arith; here = sym e }
    go (inr i) below = let P = below i in record { index = suc P.index; inside = omega (arith, P.inside); here = P.here }

-- A rearranged list has the same members, and as many. Along the way in which it is rearranged.
pub perm_mem : {A : Type 0} {x : A} {l m : List A} → Permᴰ l m → Memᴰ x l → Memᴰ x m
perm_mem Permᴰ.nil i = i
perm_mem {A} {x} (Permᴰ.cons {a} {b} {l₁} {l₂} e d) i = go (Memᴰ.cases_cons i) (perm_mem d)
  where
    go : (x ≡ a) ⊎ Memᴰ x l₁ → (Memᴰ x l₁ → Memᴰ x l₂) → Memᴰ x (b ∷ l₂)
    go (inl h) below = Memᴰ.head (h ∙ e)
    go (inr j) below = Memᴰ.tail (below j)
perm_mem {A} {x} (Permᴰ.swap {a} {b} {a'} {b'} {l} e f) i = go (Memᴰ.cases_cons i)
  where
    later : (x ≡ b) ⊎ Memᴰ x l → Memᴰ x (a' ∷ b' ∷ l)
    later (inl h) = Memᴰ.head (h ∙ f)
    later (inr j) = Memᴰ.tail (Memᴰ.tail j)

    go : (x ≡ a) ⊎ Memᴰ x (b ∷ l) → Memᴰ x (a' ∷ b' ∷ l)
    go (inl h) = Memᴰ.tail (Memᴰ.head (h ∙ e))
    go (inr j) = later (Memᴰ.cases_cons j)
perm_mem (Permᴰ.trans d e) i = perm_mem e (perm_mem d i)

pub perm_length : {A : Type 0} {l m : List A} → Permᴰ l m → length l ≡ length m
perm_length Permᴰ.nil = refl
perm_length (Permᴰ.cons e d) = ap suc (perm_length d)
perm_length (Permᴰ.swap e f) = refl
perm_length (Permᴰ.trans d e) = perm_length d ∙ perm_length e

-- Every place of a list of zeros holds 0, and so does every place past it.
pub zeros_at : (n i : ℕ) → get_or (replicate {A = ℕ} n 0) i 0 ≡ 0
zeros_at zero i = refl
zeros_at (suc n) zero = refl
zeros_at (suc n) (suc i) = zeros_at n i

-- The members of a list that do not pass a test are those of the list without the others. Induction on the list.
module _ {A : Type 0} (test : A → Bool) where
  pub without_mem : (xs : List A) {x : A} → Memᴰ x xs → test x ≡ false → Memᴰ x (without test xs)
  unfolding without
  without_mem [] m h = absurd (Memᴰ.not-nil m)
  without_mem (y ∷ xs) {x} m h = go (Memᴰ.cases_cons m) (λ i. without_mem xs i h)
    where
      kept : (b : Bool) → b ≡ false → x ≡ y → Memᴰ x (cond b [] (y ∷ []))
      kept true q e = absurd (true≢false q)
      kept false q e = Memᴰ.head e

      go : (x ≡ y) ⊎ Memᴰ x xs → (Memᴰ x xs → Memᴰ x (without test xs)) → Memᴰ x (cond (test y) [] (y ∷ []) ++ without test xs)
      go (inl e) below = Memᴰ.append_left (without test xs) (kept (test y) (ap test (sym e) ∙ h) e)
      go (inr i) below = Memᴰ.append_right (cond (test y) [] (y ∷ [])) (below i)

  pub mem_without : (xs : List A) {x : A} → Memᴰ x (without test xs) → Memᴰ x xs × (test x ≡ false)
  unfolding without
  mem_without [] m = absurd (Memᴰ.not-nil m)
  mem_without (y ∷ xs) {x} m = go (Memᴰ.append_cases (cond (test y) [] (y ∷ [])) m) (mem_without xs)
    where
      kept : (b : Bool) → Memᴰ x (cond b [] (y ∷ [])) → (b ≡ false) × (x ≡ y)
      kept true i = absurd (Memᴰ.not-nil i)
      kept false i = (refl, Memᴰ.eq_of_singleton i)

      go : Memᴰ x (cond (test y) [] (y ∷ [])) ⊎ Memᴰ x (without test xs) → (Memᴰ x (without test xs) → Memᴰ x xs × (test x ≡ false)) → Memᴰ x (y ∷ xs) × (test x ≡ false)
      go (inl i) below = let r = kept (test y) i in (Memᴰ.head r.1, ap test r.1 ∙ r.0)
      go (inr i) below = let r = below i in (Memᴰ.tail r.0, r.1)

  pub without_none : (xs : List A) → ((x : A) → Memᴰ x xs → test x ≡ false) → without test xs ≡ xs
  unfolding without
  without_none [] h = refl
  without_none (x ∷ xs) h =
      ap₂ (λ (b : Bool) (l : List A). cond b [] (x ∷ []) ++ l) (h x (Memᴰ.head refl)) (without_none xs (λ y m. h y (Memᴰ.tail m)))

-- Lists run together: of a joined list, with one element more at the end, of a mapped list, of a list of lists.
pub flatMap_append : {A B : Type 0} (f : A → List B) (xs ys : List A) → flat_map f (xs ++ ys) ≡ flat_map f xs ++ flat_map f ys
unfolding flat_map
flatMap_append f [] ys = refl
flatMap_append {B = B} f (x ∷ xs) ys = ap (λ (l : List B). f x ++ l) (flatMap_append f xs ys) ∙ sym (append_assoc (f x) (flat_map f xs) (flat_map f ys))

pub flatMap_snoc : {A B : Type 0} (f : A → List B) (xs : List A) (x : A) → flat_map f (xs ++ x ∷ []) ≡ flat_map f xs ++ f x
unfolding flat_map
flatMap_snoc {B = B} f xs x = flatMap_append f xs (x ∷ []) ∙ ap (λ (l : List B). flat_map f xs ++ l) (append-nil (f x))

pub flatMap_map : {A B C : Type 0} (f : B → List C) (g : A → B) (xs : List A) → flat_map f (map g xs) ≡ flat_map (λ x. f (g x)) xs
unfolding flat_map
flatMap_map f g [] = refl
flatMap_map {C = C} f g (x ∷ xs) = ap (λ (l : List C). f (g x) ++ l) (flatMap_map f g xs)

pub flatMap_flatMap : {A B C : Type 0} (f : B → List C) (g : A → List B) (xs : List A) → flat_map f (flat_map g xs) ≡ flat_map (λ x. flat_map f (g x)) xs
unfolding flat_map
flatMap_flatMap f g [] = refl
flatMap_flatMap {C = C} f g (x ∷ xs) = flatMap_append f (g x) (flat_map g xs) ∙ ap (λ (l : List C). flat_map f (g x) ++ l) (flatMap_flatMap f g xs)

-- Functions that agree on a list's members. Induction on the list.
pub map_same : {A B : Type 0} (f g : A → B) (xs : List A) → ((x : A) → Memᴰ x xs → f x ≡ g x) → map f xs ≡ map g xs
map_same f g [] h = refl
map_same {B = B} f g (x ∷ xs) h = ap₂ (λ (y : B) (l : List B). y ∷ l) (h x (Memᴰ.head refl)) (map_same f g xs (λ y m. h y (Memᴰ.tail m)))
