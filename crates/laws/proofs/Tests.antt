-- The laws of the general tests: some or every element, some or every number below n, tables, selections, the largest value, maps of bits.
use mathlib.Core.Path.{◌≡◌, refl, sym, ap, subst, ◌∙◌}
use mathlib.Core.Bool.{Bool, true, false, cond, ◌||◌, false≢true}
use mathlib.Core.Logic.{◌⊎◌, inl, inr}
use mathlib.Core.List.Memᴰ
use mathlib.Core.List.{List, [], ◌∷◌, ◌++◌, append_assoc, append-nil, map, map-append, Memᴰ, flat_map}
use Prim.Native.Nat.{ℕ, zero, suc, ◌+◌, ◌≤◌, ◌<◌, max}
use native.Mathlib.Omega.{arith}
use native.Mathlib.Decide.{dec_le, dec_lt}
use lib.ListN.{length, get_or, length-append, get_or-append, get_or-eq_default}
use lib.Seq.{get_or-append-add}
use Rattle.definitions.specs.Basics.{any, all, any_below, all_below, tabulate, select_below, largest}
use Rattle.laws.proofs.Bools.{bool_cases, both_ways, and_split, and_join, or_split, or_left, or_right, not_passing, cond_true, cond_false}

-- Some element passes. Induction on the list.
module _ {A : Type 0} (test : A → Bool) where
  pub any_has : (xs : List A) → any test xs ≡ true → (x : A) × Memᴰ x xs × (test x ≡ true)
  unfolding any
  any_has [] h = absurd (false≢true h)
  any_has (x ∷ xs) h = go (or_split (test x) (any test xs) h) (any_has xs)
    where
      go : (test x ≡ true) ⊎ (any test xs ≡ true) → (any test xs ≡ true → (y : A) × Memᴰ y xs × (test y ≡ true)) → (y : A) × Memᴰ y (x ∷ xs) × (test y ≡ true)
      go (inl t) below = (x, Memᴰ.head refl, t)
      go (inr t) below = let r = below t in (r.0, Memᴰ.tail r.1, r.2)

  pub any_by : {x : A} (xs : List A) → Memᴰ x xs → test x ≡ true → any test xs ≡ true
  unfolding any
  any_by [] m h = absurd (Memᴰ.not-nil m)
  any_by {x} (y ∷ xs) m h = go (Memᴰ.cases_cons m) (λ i. any_by xs i h)
    where
      go : (x ≡ y) ⊎ Memᴰ x xs → (Memᴰ x xs → any test xs ≡ true) → (test y || any test xs) ≡ true
      go (inl e) below = or_left (any test xs) (ap test (sym e) ∙ h)
      go (inr i) below = or_right (test y) (below i)

  pub any_none : (xs : List A) → any test xs ≡ false → (x : A) → Memᴰ x xs → test x ≡ false
  any_none xs h x m = not_passing (test x) (λ t. both_ways (any_by xs m t) h)

  pub none_any : (xs : List A) → ((x : A) → Memᴰ x xs → test x ≡ false) → any test xs ≡ false
  none_any xs f = not_passing (any test xs) (λ t. let r = any_has xs t in both_ways r.2 (f r.0 r.1))

  -- Every element passes.
  pub all_each : (xs : List A) → all test xs ≡ true → (x : A) → Memᴰ x xs → test x ≡ true
  unfolding all
  all_each [] h x m = absurd (Memᴰ.not-nil m)
  all_each (y ∷ xs) h x m = let r = and_split (test y) (all test xs) h in go r (Memᴰ.cases_cons m) (λ i. all_each xs r.1 x i)
    where
      go : (test y ≡ true) × (all test xs ≡ true) → (x ≡ y) ⊎ Memᴰ x xs → (Memᴰ x xs → test x ≡ true) → test x ≡ true
      go r (inl e) below = ap test e ∙ r.0
      go r (inr i) below = below i

  pub all_by : (xs : List A) → ((x : A) → Memᴰ x xs → test x ≡ true) → all test xs ≡ true
  unfolding all
  all_by [] f = refl
  all_by (y ∷ xs) f = and_join (f y (Memᴰ.head refl)) (all_by xs (λ x m. f x (Memᴰ.tail m)))

-- The numbers below n. Induction on n.
pub last_or_below : (n k : ℕ) → k < suc n → (k ≡ n) ⊎ (k < n)
last_or_below n k h = go (dec_lt k n)
  where
    go : Dec (k < n) → (k ≡ n) ⊎ (k < n)
    go (yes c) = inr c
    go (no c) = inl (omega arith)

module _ (test : ℕ → Bool) where
  pub any_below_has : (n : ℕ) → any_below test n ≡ true → (k : ℕ) × (k < n) × (test k ≡ true)
  unfolding any_below
  any_below_has zero h = absurd (false≢true h)
  any_below_has (suc n) h = go (or_split (any_below test n) (test n) h) (any_below_has n)
    where
      go : (any_below test n ≡ true) ⊎ (test n ≡ true) → (any_below test n ≡ true → (k : ℕ) × (k < n) × (test k ≡ true)) → (k : ℕ) × (k < suc n) × (test k ≡ true)
      go (inl t) below = let r = below t in (r.0, omega (arith, r.1), r.2)
      go (inr t) below = (n, omega arith, t)

  pub any_below_by : (n : ℕ) {k : ℕ} → k < n → test k ≡ true → any_below test n ≡ true
  unfolding any_below
  any_below_by zero b h = absurd (omega arith)
  any_below_by (suc n) {k} b h = go (last_or_below n k b) (λ c. any_below_by n c h)
    where
      go : (k ≡ n) ⊎ (k < n) → (k < n → any_below test n ≡ true) → (any_below test n || test n) ≡ true
      go (inl e) below = or_right (any_below test n) (ap test (sym e) ∙ h)
      go (inr c) below = or_left (test n) (below c)

  pub any_below_none : (n : ℕ) → any_below test n ≡ false → (k : ℕ) → k < n → test k ≡ false
  any_below_none n h k b = not_passing (test k) (λ t. both_ways (any_below_by n b t) h)

  pub none_any_below : (n : ℕ) → ((k : ℕ) → k < n → test k ≡ false) → any_below test n ≡ false
  none_any_below n f = not_passing (any_below test n) (λ t. let r = any_below_has n t in both_ways r.2 (f r.0 r.1))

  pub all_below_each : (n : ℕ) → all_below test n ≡ true → (k : ℕ) → k < n → test k ≡ true
  unfolding all_below
  all_below_each zero h k b = absurd (omega arith)
  all_below_each (suc n) h k b = let r = and_split (all_below test n) (test n) h in go r (last_or_below n k b) (λ c. all_below_each n r.0 k c)
    where
      go : (all_below test n ≡ true) × (test n ≡ true) → (k ≡ n) ⊎ (k < n) → (k < n → test k ≡ true) → test k ≡ true
      go r (inl e) below = ap test e ∙ r.1
      go r (inr c) below = below c

  pub all_below_by : (n : ℕ) → ((k : ℕ) → k < n → test k ≡ true) → all_below test n ≡ true
  unfolding all_below
  all_below_by zero f = refl
  all_below_by (suc n) f = and_join (all_below_by n (λ k b. f k (omega arith))) (f n (omega arith))

  -- What is selected is below n and passes, and only that.
  pub select_below_has : (n : ℕ) {k : ℕ} → k < n → test k ≡ true → Memᴰ k (select_below test n)
  unfolding select_below
  select_below_has zero b h = absurd (omega arith)
  select_below_has (suc n) {k} b h = go (last_or_below n k b) (λ c. select_below_has n c h)
    where
      here : (t : Bool) → t ≡ true → k ≡ n → Memᴰ k (cond t (n ∷ []) [])
      here true e q = Memᴰ.head q
      here false e q = absurd (false≢true e)

      go : (k ≡ n) ⊎ (k < n) → (k < n → Memᴰ k (select_below test n)) → Memᴰ k (select_below test n ++ cond (test n) (n ∷ []) [])
      go (inl e) below = Memᴰ.append_right (select_below test n) (here (test n) (ap test (sym e) ∙ h) e)
      go (inr c) below = Memᴰ.append_left (cond (test n) (n ∷ []) []) (below c)

  pub select_below_only : (n : ℕ) {k : ℕ} → Memᴰ k (select_below test n) → (k < n) × (test k ≡ true)
  unfolding select_below
  select_below_only zero m = absurd (Memᴰ.not-nil m)
  select_below_only (suc n) {k} m = go (Memᴰ.append_cases (select_below test n) m) (select_below_only n)
    where
      here : (t : Bool) → test n ≡ t → Memᴰ k (cond t (n ∷ []) []) → (k < suc n) × (test k ≡ true)
      here true e i = let q = Memᴰ.eq_of_singleton i in (omega arith, ap test q ∙ e)
      here false e i = absurd (Memᴰ.not-nil i)

      go : Memᴰ k (select_below test n) ⊎ Memᴰ k (cond (test n) (n ∷ []) []) → (Memᴰ k (select_below test n) → (k < n) × (test k ≡ true)) → (k < suc n) × (test k ≡ true)
      go (inl i) below = let r = below i in (omega (arith, r.0), r.1)
      go (inr i) below = here (test n) refl i

-- Nothing is selected where nothing below n passes.
pub select_below_none : (test : ℕ → Bool) (n : ℕ) → ((k : ℕ) → k < n → test k ≡ false) → select_below test n ≡ []
unfolding select_below
select_below_none test zero f = refl
select_below_none test (suc n) f =
    let rest = select_below_none test n (λ k b. f k (omega arith)) in
    let last = f n (omega arith) in
    rw (rest, last)

pub select_below_same : (t u : ℕ → Bool) (n : ℕ) → ((k : ℕ) → k < n → t k ≡ u k) → select_below t n ≡ select_below u n
unfolding select_below
select_below_same t u zero f = refl
select_below_same t u (suc n) f =
    let rest = select_below_same t u n (λ k b. f k (omega arith)) in
    let last = f n (omega arith) in
    rw (rest, last)

-- The first a numbers, and then b more. Induction on b.
pub select_below_split : (test : ℕ → Bool) (a b : ℕ) → select_below test (a + b) ≡ select_below test a ++ map (λ j. a + j) (select_below (λ j. test (a + j)) b)
unfolding select_below
select_below_split test a zero = let e : a + 0 ≡ a = omega arith in ap (select_below test) e ∙ sym (append-nil (select_below test a))
select_below_split test a (suc b) =
    let e : a + suc b ≡ suc (a + b) = omega arith in
    ap (select_below test) e
    ∙ ap (λ (l : List ℕ). l ++ cond (test (a + b)) ((a + b) ∷ []) []) (select_below_split test a b)
    ∙ append_assoc (select_below test a) (map (λ j. a + j) (select_below (λ j. test (a + j)) b)) (cond (test (a + b)) ((a + b) ∷ []) [])
    ∙ ap (λ (l : List ℕ). select_below test a ++ l) (last (test (a + b)) ∙ sym (map-append (λ j. a + j) (select_below (λ j. test (a + j)) b) (cond (test (a + b)) (b ∷ []) [])))
  where
    last : (t : Bool) → map (λ j. a + j) (select_below (λ j. test (a + j)) b) ++ cond t ((a + b) ∷ []) [] ≡ map (λ j. a + j) (select_below (λ j. test (a + j)) b) ++ map (λ j. a + j) (cond t (b ∷ []) [])
    last true = refl
    last false = refl

-- A table has n entries, and entry k is f k.
module _ {A : Type 0} (f : ℕ → A) where
  pub tabulate_length : (n : ℕ) → length (tabulate f n) ≡ n
  unfolding tabulate
  tabulate_length zero = refl
  tabulate_length (suc n) = omega (arith, length-append (tabulate f n) (f n ∷ []), tabulate_length n)

  pub tabulate_at : (n k : ℕ) (z : A) → k < n → get_or (tabulate f n) k z ≡ f k
  unfolding tabulate
  tabulate_at zero k z b = absurd (omega arith)
  tabulate_at (suc n) k z b = go (last_or_below n k b) (tabulate_at n k z)
    where
      size : length (tabulate f n) ≡ n
      size = tabulate_length n

      go : (k ≡ n) ⊎ (k < n) → (k < n → get_or (tabulate f n) k z ≡ f k) → get_or (tabulate f n ++ f n ∷ []) k z ≡ f k
      go (inl e) below =
          ap (λ (i : ℕ). get_or (tabulate f n ++ f n ∷ []) i z) (e ∙ sym size ∙ omega arith) ∙ get_or-append-add (tabulate f n) (f n ∷ []) 0 z ∙ ap f (sym e)
      go (inr c) below = get_or-append (tabulate f n) (f n ∷ []) z k (omega (arith, size)) ∙ below c

  pub tabulate_past : (n k : ℕ) (z : A) → n ≤ k → get_or (tabulate f n) k z ≡ z
  tabulate_past n k z b = get_or-eq_default (tabulate f n) z (omega (arith, tabulate_length n))

pub tabulate_same : {A : Type 0} (f g : ℕ → A) (n : ℕ) → ((k : ℕ) → k < n → f k ≡ g k) → tabulate f n ≡ tabulate g n
unfolding tabulate
tabulate_same f g zero h = refl
tabulate_same f g (suc n) h =
    let rest = tabulate_same f g n (λ k b. h k (omega arith)) in
    let last = h n (omega arith) in
    rw (rest, last)

-- A table with f put on each entry.
pub map_tabulate : {A B : Type 0} (f : A → B) (g : ℕ → A) (n : ℕ) → map f (tabulate g n) ≡ tabulate (λ k. f (g k)) n
unfolding tabulate
map_tabulate f g zero = refl
map_tabulate {B = B} f g (suc n) = map-append f (tabulate g n) (g n ∷ []) ∙ ap (λ (l : List B). l ++ f (g n) ∷ []) (map_tabulate f g n)

-- What is in a table.
pub tabulate_mem : {A : Type 0} (f : ℕ → A) (n : ℕ) {k : ℕ} → k < n → Memᴰ (f k) (tabulate f n)
unfolding tabulate
tabulate_mem f zero b = absurd (omega arith)
tabulate_mem f (suc n) {k} b = go (last_or_below n k b) (tabulate_mem f n)
  where
    go : (k ≡ n) ⊎ (k < n) → (k < n → Memᴰ (f k) (tabulate f n)) → Memᴰ (f k) (tabulate f n ++ f n ∷ [])
    go (inl e) below = Memᴰ.append_right (tabulate f n) (Memᴰ.head (ap f e))
    go (inr c) below = Memᴰ.append_left (f n ∷ []) (below c)

pub mem_tabulate : {A : Type 0} (f : ℕ → A) (n : ℕ) {x : A} → Memᴰ x (tabulate f n) → (k : ℕ) × (k < n) × (x ≡ f k)
unfolding tabulate
mem_tabulate f zero m = absurd (Memᴰ.not-nil m)
mem_tabulate {A} f (suc n) {x} m = go (Memᴰ.append_cases (tabulate f n) m) (mem_tabulate f n)
  where
    go : Memᴰ x (tabulate f n) ⊎ Memᴰ x (f n ∷ []) → (Memᴰ x (tabulate f n) → (k : ℕ) × (k < n) × (x ≡ f k)) → (k : ℕ) × (k < suc n) × (x ≡ f k)
    go (inl i) below = let r = below i in (r.0, omega (arith, r.1), r.2)
    go (inr i) below = (n, omega arith, Memᴰ.eq_of_singleton i)

-- The largest value: no passing number has a larger one, and one has it, or it is 0.
pub largest_above : (test : ℕ → Bool) (f : ℕ → ℕ) (n k : ℕ) → k < n → test k ≡ true → f k ≤ largest test f n
unfolding largest
largest_above test f zero k b h = omega arith
largest_above test f (suc n) k b h = go (last_or_below n k b) (λ c. largest_above test f n k c h)
  where
    go : (k ≡ n) ⊎ (k < n) → (k < n → f k ≤ largest test f n) → f k ≤ max (largest test f n) (cond (test n) (f n) 0)
    go (inl e) below = omega (arith, cond_true (f n) 0 (ap test (sym e) ∙ h), ap f e)
    go (inr c) below = omega (arith, below c)

-- The largest value is 0, or that of some number below n that passes.
abbrev Attained : (ℕ → Bool) → (ℕ → ℕ) → ℕ → ℕ → Type 0
Attained test f n x = (x ≡ 0) ⊎ ((k : ℕ) × (k < n) × (test k ≡ true) × (x ≡ f k))

pub largest_attained : (test : ℕ → Bool) (f : ℕ → ℕ) (n : ℕ) → (largest test f n ≡ 0) ⊎ ((k : ℕ) × (k < n) × (test k ≡ true) × (largest test f n ≡ f k))
unfolding largest
largest_attained test f zero = inl refl
largest_attained test f (suc n) = go (bool_cases (test n)) (dec_le (f n) (largest test f n)) (largest_attained test f n)
  where
    go : (test n ≡ true) ⊎ (test n ≡ false) → Dec (f n ≤ largest test f n) → Attained test f n (largest test f n) → Attained test f (suc n) (max (largest test f n) (cond (test n) (f n) 0))
    go (inl t) (no c) r = inr (n, omega arith, t, omega (arith, cond_true (f n) 0 t))
    go (inl t) (yes c) (inl e) = inl (omega (arith, cond_true (f n) 0 t))
    go (inl t) (yes c) (inr r) = inr (r.0, omega (arith, r.1), r.2, omega (arith, r.3, cond_true (f n) 0 t))
    go (inr t) c (inl e) = inl (omega (arith, cond_false (f n) 0 t))
    go (inr t) c (inr r) = inr (r.0, omega (arith, r.1), r.2, omega (arith, r.3, cond_false (f n) 0 t))

-- No value above a bound makes no largest value above it.
pub largest_below : (test : ℕ → Bool) (f : ℕ → ℕ) (n x : ℕ) → ((k : ℕ) → k < n → test k ≡ true → f k ≤ x) → largest test f n ≤ x
largest_below test f n x h = go (largest_attained test f n)
  where
    go : (largest test f n ≡ 0) ⊎ ((k : ℕ) × (k < n) × (test k ≡ true) × (largest test f n ≡ f k)) → largest test f n ≤ x
    go (inl e) = omega arith
    go (inr r) = omega (arith, r.3, h r.0 r.1 r.2)

-- It depends on the values of what passes alone.
pub largest_same : (test : ℕ → Bool) (f g : ℕ → ℕ) (n : ℕ) → ((k : ℕ) → k < n → test k ≡ true → f k ≡ g k) → largest test f n ≡ largest test g n
unfolding largest
largest_same test f g zero h = refl
largest_same test f g (suc n) h = go (bool_cases (test n)) (largest_same test f g n (λ k b. h k (omega arith)))
  where
    go : (test n ≡ true) ⊎ (test n ≡ false) → largest test f n ≡ largest test g n → max (largest test f n) (cond (test n) (f n) 0) ≡ max (largest test g n) (cond (test n) (g n) 0)
    go (inl t) rest = omega (arith, cond_true (f n) 0 t, cond_true (g n) 0 t, h n (omega arith) t)
    go (inr t) rest = omega (arith, cond_false (f n) 0 t, cond_false (g n) 0 t)

-- And on which numbers pass.
pub largest_same_test : (t u : ℕ → Bool) (f : ℕ → ℕ) (n : ℕ) → ((k : ℕ) → k < n → t k ≡ u k) → largest t f n ≡ largest u f n
unfolding largest
largest_same_test t u f zero h = refl
largest_same_test t u f (suc n) h =
    let rest = largest_same_test t u f n (λ k b. h k (omega arith)) in
    omega (arith, ap (λ (b : Bool). cond b (f n) 0) (h n (omega arith)))

-- What is in a list that is made of lists.
module _ {A B : Type 0} (f : A → List B) where
  pub flatMap_has : {x : A} {y : B} (xs : List A) → Memᴰ x xs → Memᴰ y (f x) → Memᴰ y (flat_map f xs)
  unfolding flat_map
  flatMap_has [] m h = absurd (Memᴰ.not-nil m)
  flatMap_has {x} {y} (z ∷ xs) m h = go (Memᴰ.cases_cons m) (λ i. flatMap_has xs i h)
    where
      go : (x ≡ z) ⊎ Memᴰ x xs → (Memᴰ x xs → Memᴰ y (flat_map f xs)) → Memᴰ y (f z ++ flat_map f xs)
      go (inl e) below = Memᴰ.append_left (flat_map f xs) (subst (λ (w : A). Memᴰ y (f w)) e h)
      go (inr i) below = Memᴰ.append_right (f z) (below i)

  pub flatMap_only : {y : B} (xs : List A) → Memᴰ y (flat_map f xs) → (x : A) × Memᴰ x xs × Memᴰ y (f x)
  unfolding flat_map
  flatMap_only [] m = absurd (Memᴰ.not-nil m)
  flatMap_only {y} (z ∷ xs) m = go (Memᴰ.append_cases (f z) m) (flatMap_only xs)
    where
      go : Memᴰ y (f z) ⊎ Memᴰ y (flat_map f xs) → (Memᴰ y (flat_map f xs) → (x : A) × Memᴰ x xs × Memᴰ y (f x)) → (x : A) × Memᴰ x (z ∷ xs) × Memᴰ y (f x)
      go (inl i) below = (z, Memᴰ.head refl, i)
      go (inr i) below = let r = below i in (r.0, Memᴰ.tail r.1, r.2)
