-- Lists in rising order: joined, mapped, selected, and made of lists. The lists of waits and of start lines are a selection of pairs, by the first number and then by the second.
use mathlib.Core.Path.{◌≡◌, refl, subst}
use mathlib.Core.Bool.{Bool, true, false, cond}
use mathlib.Core.Logic.{◌⊎◌, inl, inr}
use mathlib.Core.List.Memᴰ
use mathlib.Core.List.{List, [], ◌∷◌, ◌++◌, map, flat_map, Memᴰ}
use Prim.Native.Nat.{ℕ, zero, suc, ◌<◌}
use native.Mathlib.Omega.{arith}
use Rattle.definitions.specs.Basics.{tabulate, select_below}
use Rattle.laws.proofs.Tests.{select_below_has, select_below_only, tabulate_mem, mem_tabulate, flatMap_has, flatMap_only}
use Rattle.demands.specs.Demands.{Rising}

module _ {A : Type 0} (before : A → A → Type 0) where
  -- Two rising lists, all of the first before all of the second. Induction on the first.
  rising_join : (xs ys : List A) → Rising before xs → Rising before ys → ((x y : A) → Memᴰ x xs → Memᴰ y ys → before x y) → Rising before (xs ++ ys)
  rising_join [] ys p r h = r
  rising_join (x ∷ xs) ys p r h = (λ y m. go y (Memᴰ.append_cases xs m), rising_join xs ys p.1 r (λ u w m i. h u w (Memᴰ.tail m) i))
    where
      go : (y : A) → Memᴰ y xs ⊎ Memᴰ y ys → before x y
      go y (inl m) = p.0 y m
      go y (inr m) = h x y (Memᴰ.head refl) m

  pub rising_map : (f : ℕ → A) (l : List ℕ) → ((j k : ℕ) → Memᴰ j l → Memᴰ k l → j < k → before (f j) (f k)) → Rising ◌<◌ l → Rising before (map f l)
  rising_map f [] h p = tt
  rising_map f (k ∷ l) h p = (λ y m. go y (Memᴰ.of_map f l m), rising_map f l (λ i j m n. h i j (Memᴰ.tail m) (Memᴰ.tail n)) p.1)
    where
      go : (y : A) → (j : ℕ) × Memᴰ j l × (f j ≡ y) → before (f k) y
      go y r = subst (before (f k)) r.2 (h k r.0 (Memᴰ.head refl) (Memᴰ.tail r.1) (p.0 r.0 r.1))

  rising_lists : (g : ℕ → List A) (l : List ℕ) → Rising ◌<◌ l → ((k : ℕ) → Rising before (g k)) → ((j k : ℕ) (x y : A) → j < k → Memᴰ x (g j) → Memᴰ y (g k) → before x y) → Rising before (flat_map g l)
  unfolding flat_map
  rising_lists g [] p each h = tt
  rising_lists g (k ∷ l) p each h =
      rising_join (g k) (flat_map g l) (each k) (rising_lists g l p.1 each h) (λ x y m i. let r = flatMap_only g l i in h k r.0 x y (p.0 r.0 r.1) m r.2)

-- The numbers below n that pass, and all of them.
pub select_rising : (test : ℕ → Bool) (n : ℕ) → Rising ◌<◌ (select_below test n)
unfolding select_below
select_rising test zero = tt
select_rising test (suc n) =
    rising_join ◌<◌ (select_below test n) (cond (test n) (n ∷ []) []) (select_rising test n) (one (test n)) (λ x y m i. omega (arith, (select_below_only test n m).0, only (test n) y i))
  where
    one : (b : Bool) → Rising ◌<◌ (cond b (n ∷ []) [])
    one true = (λ y m. absurd (Memᴰ.not-nil m), tt)
    one false = tt

    only : (b : Bool) (y : ℕ) → Memᴰ y (cond b (n ∷ []) []) → y ≡ n
    only true y m = Memᴰ.eq_of_singleton m
    only false y m = absurd (Memᴰ.not-nil m)

tabulate_rising : (n : ℕ) → Rising ◌<◌ (tabulate (λ k. k) n)
unfolding tabulate
tabulate_rising zero = tt
tabulate_rising (suc n) =
    rising_join ◌<◌ (tabulate (λ k. k) n) (n ∷ []) (tabulate_rising n) (λ y m. absurd (Memᴰ.not-nil m), tt) (λ x y m i. let r = mem_tabulate (λ (k : ℕ). k) n m in omega (arith, r.1, r.2, Memᴰ.eq_of_singleton i))

-- The pairs below n that pass, by the first and then by the second number: their order, and which they are.
module _ {A : Type 0} (f : ℕ → ℕ → A) (test : ℕ → ℕ → Bool) (n : ℕ) where
  abbrev row : ℕ → List A
  row j = map (f j) (select_below (test j) n)

  abbrev pub pairs : List A
  pairs = flat_map row (tabulate (λ j. j) n)

  pub pairs_rising : (before : A → A → Type 0) → ((i j k l : ℕ) → (i < j) ⊎ ((i ≡ j) × (k < l)) → before (f i k) (f j l)) → Rising before pairs
  pairs_rising before h =
      rising_lists before row (tabulate (λ j. j) n) (tabulate_rising n) (λ j. rising_map before (f j) (select_below (test j) n) (λ k l m i b. h j j k l (inr (refl, b))) (select_rising (test j) n)) apart
    where
      apart : (i j : ℕ) (x y : A) → i < j → Memᴰ x (row i) → Memᴰ y (row j) → before x y
      apart i j x y b m k =
          let r = Memᴰ.of_map (f i) (select_below (test i) n) m in
          let s = Memᴰ.of_map (f j) (select_below (test j) n) k in
          subst (λ (z : A). before z y) r.2 (subst (before (f i r.0)) s.2 (h i j r.0 s.0 (inl b)))

  pub pairs_has : (i k : ℕ) → i < n → k < n → test i k ≡ true → Memᴰ (f i k) pairs
  pairs_has i k a b h = flatMap_has row (tabulate (λ j. j) n) (tabulate_mem (λ j. j) n a) (Memᴰ.map (f i) (select_below_has (test i) n b h))

  pub pairs_only : {x : A} → Memᴰ x pairs → (i : ℕ) × (k : ℕ) × (i < n) × (test i k ≡ true) × (f i k ≡ x)
  pairs_only m =
      let r = flatMap_only row (tabulate (λ j. j) n) m in
      let s = Memᴰ.of_map (f r.0) (select_below (test r.0) n) r.2 in
      let t = mem_tabulate (λ (j : ℕ). j) n r.1 in
      (r.0, s.0, omega (arith, t.1, t.2), (select_below_only (test r.0) n s.1).1, s.2)
