-- The pigeonhole principle: a walk of n edges or more through vertices below n goes round a closed walk. Where no closed walk weighs more than 0, walks of fewer than n edges are as heavy as any.
use mathlib.Core.Path.{◌∙◌, ◌≡◌, ap, refl, sym}
use mathlib.Core.Logic.{◌≢◌, ◌⊎◌, inl, inr}
use mathlib.Core.List.Memᴰ
use mathlib.Core.List.{List, Memᴰ, [], ◌∷◌}
use Prim.Native.Nat.{◌*◌, ◌+◌, ◌-◌, ◌<◌, ◌≤◌, suc, zero, ℕ}
use native.Mathlib.Omega.{arith}
use native.Mathlib.Decide.{dec_lt, ℕ_discrete}
use native.Mathlib.Nat.{suc-mul}
use Rattle.definitions.specs.Links.{Edge, Graph, Joined, Walk, step, stop}
use Rattle.theory.specs.Graphs.{Gains, Losses, NonPositive, Shape}
use Rattle.theory.proofs.Walks.{join, walk_none, walk_to}

-- Whether a number is in a list.
pub dec_mem : (z : ℕ) (l : List ℕ) → Dec (Memᴰ z l)
dec_mem z [] = no Memᴰ.not-nil
dec_mem z (x ∷ l) = go (ℕ_discrete z x) (dec_mem z l)
  where
    go : Dec (z ≡ x) → Dec (Memᴰ z l) → Dec (Memᴰ z (x ∷ l))
    go (yes e) d = yes (Memᴰ.head e)
    go (no e) (yes m) = yes (Memᴰ.tail m)
    go (no e) (no m) = no (λ h. neither (Memᴰ.cases_cons h))
      where
        neither : (z ≡ x) ⊎ Memᴰ z l → ⊥
        neither (inl h) = e h
        neither (inr h) = m h

-- How many numbers below n a list leaves free. Each new number below n takes one: the pigeonhole principle in the form that an induction uses as fuel.
tick : {A : Type 0} → Dec A → ℕ
tick (yes a) = 0
tick (no a) = 1

tick_yes : {A : Type 0} (d : Dec A) → A → tick d ≡ 0
unfolding tick
tick_yes (yes a) h = refl
tick_yes (no a) h = absurd (a h)

tick_no : {A : Type 0} (d : Dec A) → ¬ A → tick d ≡ 1
unfolding tick
tick_no (yes a) h = absurd (h a)
tick_no (no a) h = refl

tick_same : {A B : Type 0} (d : Dec A) (e : Dec B) → (A → B) → (B → A) → tick d ≡ tick e
tick_same d (yes b) f g = tick_yes d (g b) ∙ sym (tick_yes (yes b) b)
tick_same d (no b) f g = tick_no d (λ a. b (f a)) ∙ sym (tick_no (no b) b)

pub free : ℕ → List ℕ → ℕ
free zero l = 0
free (suc m) l = tick (dec_mem m l) + free m l

pub free_none : (n : ℕ) → free n [] ≡ n
unfolding free
free_none zero = refl
free_none (suc m) = omega (arith, tick_no (dec_mem m []) Memᴰ.not-nil, free_none m)

other : {z m : ℕ} {l : List ℕ} → m ≢ z → Memᴰ m (z ∷ l) → Memᴰ m l
other {z} {m} {l} n h = go (Memᴰ.cases_cons h)
  where
    go : (m ≡ z) ⊎ Memᴰ m l → Memᴰ m l
    go (inl e) = absurd (n e)
    go (inr i) = i

free_skip : (m z : ℕ) (l : List ℕ) → m ≤ z → free m (z ∷ l) ≡ free m l
unfolding free
free_skip zero z l h = refl
free_skip (suc m) z l h =
    omega (arith, tick_same (dec_mem m (z ∷ l)) (dec_mem m l) (other (omega arith)) Memᴰ.tail, free_skip m z l (omega arith))

pub free_take : (m z : ℕ) (l : List ℕ) → z < m → ¬ Memᴰ z l → suc (free m (z ∷ l)) ≡ free m l
unfolding free
free_take zero z l b h = omega arith
free_take (suc m) z l b h = go (ℕ_discrete m z) (λ c. free_take m z l c h)
  where
    go : Dec (m ≡ z) → (z < m → suc (free m (z ∷ l)) ≡ free m l) → suc (tick (dec_mem m (z ∷ l)) + free m (z ∷ l)) ≡ tick (dec_mem m l) + free m l
    go (yes e) ih =
        omega (arith, tick_yes (dec_mem m (z ∷ l)) (Memᴰ.head e), tick_no (dec_mem m l) (λ i. h (Memᴰ.cast (sym e) i)), free_skip m z l (omega arith))
    go (no e) ih = omega (arith, tick_same (dec_mem m (z ∷ l)) (dec_mem m l) (other e) Memᴰ.tail, ih (omega arith))

-- A walk through z: the part before it and the part behind it. And one that goes round: a part before, a closed walk of at least one edge, a part behind.
pub record Split (E : Graph) (x z y k p q : ℕ) : Type 0 where
  pub k₁ : ℕ
  pub p₁ : ℕ
  pub q₁ : ℕ
  pub k₂ : ℕ
  pub p₂ : ℕ
  pub q₂ : ℕ
  pub before : Walk E x z k₁ p₁ q₁
  pub behind : Walk E z y k₂ p₂ q₂
  pub ks : k ≡ k₁ + k₂
  pub ps : p ≡ p₁ + p₂
  pub qs : q ≡ q₁ + q₂

pub record Loop (E : Graph) (x y k p q : ℕ) : Type 0 where
  pub z : ℕ
  pub k₁ : ℕ
  pub p₁ : ℕ
  pub q₁ : ℕ
  pub k₂ : ℕ
  pub p₂ : ℕ
  pub q₂ : ℕ
  pub k₃ : ℕ
  pub p₃ : ℕ
  pub q₃ : ℕ
  pub before : Walk E x z k₁ p₁ q₁
  pub round : Walk E z z (suc k₂) p₂ q₂
  pub behind : Walk E z y k₃ p₃ q₃
  pub ks : k ≡ k₁ + suc k₂ + k₃
  pub ps : p ≡ p₁ + p₂ + p₃
  pub qs : q ≡ q₁ + q₂ + q₃

-- The vertices of a walk, the last first.
pub trail : {E : Graph} {x y k p q : ℕ} → Walk E x y k p q → List ℕ
trail (stop {y = y} e hk hp hq) = y ∷ []
trail (step {z = z} w e m f o hk hp hq) = z ∷ trail w

split_end : {E : Graph} {x y k p q z : ℕ} → Walk E x y k p q → z ≡ y → Split E x z y k p q
split_end {k = k} {p = p} {q = q} w e =
    record { k₁ = k; p₁ = p; q₁ = q; k₂ = 0; p₂ = 0; q₂ = 0; before = walk_to w (sym e) refl refl refl; behind = stop e refl refl refl; ks = omega arith; ps = omega arith; qs = omega arith }

split_step : {E : Graph} {x y k p q z y' k' p' q' : ℕ} → Split E x z y k p q → (e : Edge) → E e → e.from ≡ y → e.to ≡ y' → k' ≡ suc k → p' ≡ p + e.gain → q' ≡ q + e.loss → Split E x z y' k' p' q'
split_step s e m f o hk hp hq = record {
  k₁ = s.k₁;
  p₁ = s.p₁;
  q₁ = s.q₁;
  k₂ = suc s.k₂;
  p₂ = s.p₂ + e.gain;
  q₂ = s.q₂ + e.loss;
  before = s.before;
  behind = step s.behind e m f o refl refl refl;
  ks = omega (arith, s.ks);
  ps = omega (arith, s.ps);
  qs = omega (arith, s.qs);
}

pub split_at : {E : Graph} {x y k p q z : ℕ} (w : Walk E x y k p q) → Memᴰ z (trail w) → Split E x z y k p q
unfolding trail
split_at (stop e hk hp hq) i = split_end (stop e hk hp hq) (Memᴰ.eq_of_singleton i)
split_at {E} {x} {y} {k} {p} {q} {z} (step w e m f o hk hp hq) i = go (Memᴰ.cases_cons i) (λ j. split_step (split_at w j) e m f o hk hp hq)
  where
    go : (z ≡ y) ⊎ Memᴰ z (trail w) → (Memᴰ z (trail w) → Split E x z y k p q) → Split E x z y k p q
    go (inl h) below = split_end (step w e m f o hk hp hq) h
    go (inr h) below = below h

loop_step : {E : Graph} {x y k p q y' k' p' q' : ℕ} → Loop E x y k p q → (e : Edge) → E e → e.from ≡ y → e.to ≡ y' → k' ≡ suc k → p' ≡ p + e.gain → q' ≡ q + e.loss → Loop E x y' k' p' q'
loop_step s e m f o hk hp hq = record {
  z = s.z;
  k₁ = s.k₁;
  p₁ = s.p₁;
  q₁ = s.q₁;
  k₂ = s.k₂;
  p₂ = s.p₂;
  q₂ = s.q₂;
  k₃ = suc s.k₃;
  p₃ = s.p₃ + e.gain;
  q₃ = s.q₃ + e.loss;
  before = s.before;
  round = s.round;
  behind = step s.behind e m f o refl refl refl;
  ks = omega (arith, s.ks);
  ps = omega (arith, s.ps);
  qs = omega (arith, s.qs);
}

-- The last edge comes back to where the walk was before.
loop_close : {E : Graph} {x y k p q y' k' p' q' : ℕ} → Split E x y' y k p q → (e : Edge) → E e → e.from ≡ y → e.to ≡ y' → k' ≡ suc k → p' ≡ p + e.gain → q' ≡ q + e.loss → Loop E x y' k' p' q'
loop_close {y' = y'} s e m f o hk hp hq = record {
  z = y';
  k₁ = s.k₁;
  p₁ = s.p₁;
  q₁ = s.q₁;
  k₂ = s.k₂;
  p₂ = s.p₂ + e.gain;
  q₂ = s.q₂ + e.loss;
  k₃ = 0;
  p₃ = 0;
  q₃ = 0;
  before = s.before;
  round = step s.behind e m f o refl refl refl;
  behind = walk_none y';
  ks = omega (arith, s.ks);
  ps = omega (arith, s.ps);
  qs = omega (arith, s.qs);
}

module _ {n : ℕ} {E : Graph} (shape : Shape n E) where
  -- Either some vertex comes twice, or each of the k + 1 vertices takes a free number. Induction on the walk.
  pub loop_or_free : {x y k p q : ℕ} → x < n → (w : Walk E x y k p q) → Loop E x y k p q ⊎ (suc k + free n (trail w) ≡ n)
  unfolding trail
  loop_or_free {x} {y} b (stop e hk hp hq) = inr (omega (arith, free_take n y [] (omega arith) Memᴰ.not-nil, free_none n))
  loop_or_free {x} {y} {k} {p} {q} b (step {y = y₀} {k = k₀} {p = p₀} {q = q₀} w e m f o hk hp hq) = go (loop_or_free b w) (dec_mem y (trail w))
    where
      go : Loop E x y₀ k₀ p₀ q₀ ⊎ (suc k₀ + free n (trail w) ≡ n) → Dec (Memᴰ y (trail w)) → Loop E x y k p q ⊎ (suc k + free n (y ∷ trail w) ≡ n)
      go (inl s) d = inl (loop_step s e m f o hk hp hq)
      go (inr h) (yes i) = inl (loop_close (split_at w i) e m f o hk hp hq)
      go (inr h) (no i) = inr (omega (arith, free_take n y (trail w) (rw o at (shape.to_below e m)) i))

  pub walk_loop : {x y k p q : ℕ} → x < n → n ≤ k → Walk E x y k p q → Loop E x y k p q
  walk_loop {x} {y} {k} {p} {q} b h w = go (loop_or_free b w)
    where
      go : Loop E x y k p q ⊎ (suc k + free n (trail w) ≡ n) → Loop E x y k p q
      go (inl s) = s
      go (inr e) = absurd (omega arith)

-- A walk between the same ends, of fewer than n edges, that is as heavy.
pub record Short (n : ℕ) (E : Graph) (x y p q : ℕ) : Type 0 where
  pub k₂ : ℕ
  pub p₂ : ℕ
  pub q₂ : ℕ
  pub few : k₂ < n
  pub walk : Walk E x y k₂ p₂ q₂
  pub heavy : p + q₂ ≤ p₂ + q

module _ {n : ℕ} {E : Graph} (shape : Shape n E) (never : NonPositive E) where
  -- Cut out closed walks, none of which is above 0, until fewer than n edges are left.
  shorten_below : (fuel : ℕ) {x y k p q : ℕ} → k < fuel → x < n → Walk E x y k p q → Short n E x y p q
  shorten_below zero h b w = absurd (omega arith)
  shorten_below (suc fuel) {x} {y} {k} {p} {q} h b w = go (dec_lt k n) (λ s. shorten_below fuel (omega (arith, s.ks)) b (join s.before s.behind))
    where
      go : Dec (k < n) → ((s : Loop E x y k p q) → Short n E x y (s.p₁ + s.p₃) (s.q₁ + s.q₃)) → Short n E x y p q
      go (yes c) below = record { k₂ = k; p₂ = p; q₂ = q; few = c; walk = w; heavy = omega arith }
      go (no c) below =
          let s : Loop E x y k p q = walk_loop shape b (omega arith) w in
          let r = below s in
          record { k₂ = r.k₂; p₂ = r.p₂; q₂ = r.q₂; few = r.few; walk = r.walk; heavy = omega (arith, r.heavy, s.ps, s.qs, never.closed s.round) }

  pub shorten : {x y k p q : ℕ} → x < n → Walk E x y k p q → Short n E x y p q
  shorten {k = k} b w = shorten_below (suc k) (omega arith) b w

-- Without regard to weight: some walk between the same ends has fewer than n edges.
pub record Brief (n : ℕ) (E : Graph) (x y : ℕ) : Type 0 where
  pub k : ℕ
  pub p : ℕ
  pub q : ℕ
  pub few : k < n
  pub walk : Walk E x y k p q

module _ {n : ℕ} {E : Graph} (shape : Shape n E) where
  brief_below : (fuel : ℕ) {x y k p q : ℕ} → k < fuel → x < n → Walk E x y k p q → Brief n E x y
  brief_below zero h b w = absurd (omega arith)
  brief_below (suc fuel) {x} {y} {k} {p} {q} h b w = go (dec_lt k n) (λ s. brief_below fuel (omega (arith, s.ks)) b (join s.before s.behind))
    where
      go : Dec (k < n) → ((s : Loop E x y k p q) → Brief n E x y) → Brief n E x y
      go (yes c) below = record { k = k; p = p; q = q; few = c; walk = w }
      go (no c) below = below (walk_loop shape b (omega arith) w)

  pub brief : {x y : ℕ} → x < n → Joined E x y → Brief n E x y
  brief b J = brief_below (suc J.k) (omega arith) b J.walk

-- A walk's sums are at most its edges' largest gain, or loss, for each edge.
pub walk_gain : {E : Graph} {g x y k p q : ℕ} → Gains E g → Walk E x y k p q → p ≤ k * g
walk_gain G (stop e hk hp hq) = omega arith
walk_gain {g = g} G (step {k = k₀} w e m f o hk hp hq) = omega (arith, walk_gain G w, G e m, suc-mul k₀ g, ap (λ (i : ℕ). i * g) hk)

-- A walk whose first edge gains at most f: the other edges gain at most g each.
pub walk_first_gain : {E : Graph} {f g x y k p q : ℕ} → ((e : Edge) → E e → e.from ≡ x → e.gain ≤ f) → Gains E g → Walk E x y k p q → p ≤ f + (k - 1) * g
walk_first_gain F G (stop e hk hp hq) = omega arith
walk_first_gain F G (step (stop e₀ hk₀ hp₀ hq₀) e m l o hk hp hq) = omega (arith, F e m (l ∙ sym e₀))
walk_first_gain {g = g} {k = k} F G (step {k = k₁} (step w e₀ m₀ l₀ o₀ hk₀ hp₀ hq₀) e m l o hk hp hq) =
    let some : suc (k₁ - 1) ≡ k₁ = omega arith in
    let same : k₁ ≡ k - 1 = omega arith in
    omega (arith, walk_first_gain F G (step w e₀ m₀ l₀ o₀ hk₀ hp₀ hq₀), G e m, suc-mul (k₁ - 1) g, ap (λ (i : ℕ). i * g) some, ap (λ (i : ℕ). i * g) same)

pub walk_loss : {E : Graph} {l x y k p q : ℕ} → Losses E l → Walk E x y k p q → q ≤ k * l
walk_loss L (stop e hk hp hq) = omega arith
walk_loss {l = l} L (step {k = k₀} w e m f o hk hp hq) = omega (arith, walk_loss L w, L e m, suc-mul k₀ l, ap (λ (i : ℕ). i * l) hk)
