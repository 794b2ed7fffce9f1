-- Offsets: n rounds find them, and how large they can be.
use mathlib.Core.Path.{◌≡◌, refl, subst, ◌∙◌}
use mathlib.Core.Logic.{◌↔◌, ◌⊎◌, inl, inr}
use mathlib.Core.List.{List, Memᴰ}
use Prim.Native.Nat.{◌*◌, ◌+◌, ◌-◌, ◌<◌, ◌≤◌, suc, zero, ℕ}
use native.Mathlib.Omega.{arith}
use native.Mathlib.Nat.{mul-le-mul_right}
use Rattle.definitions.specs.Limits.{most_steps, most_gain, most_first_gain, most_walk, most_offset}
use Rattle.definitions.specs.Anchors.{InAnchorSet, WellPosed, chain, is_source}
use Rattle.definitions.specs.Links.{After, Edge, Graph, UsableFrom, Walk, members, usable, no_leasts}
use Rattle.definitions.specs.Plan.{Offset, Span, after, first_row, offset, offset_row, source}
use Rattle.definitions.specs.Rounds.{cell, rounds}
use Rattle.theory.specs.Graphs.{Carries, FirstGains, Gains, NonPositive, Rooted, Shape, Well}
use Rattle.theory.proofs.FirstRows.{after_start, source_start}
use Rattle.theory.proofs.Pigeonhole.{Loop, Short, free, free_take, loop_or_free, shorten, split_at, trail, walk_first_gain, walk_gain}
use Rattle.theory.proofs.Relaxation.{Grounded, Start, grounded, rounds_offset, rounds_span, rounds_under}
use Rattle.theory.proofs.Usables.{carries_list, forwards_usable, member_usable, members_usable, nonpositive_mono, usable_list_shape, usable_members, usable_shape, usable_sub}
use Rattle.theory.proofs.Walks.{after_by, after_mono, join, joined_mono, member_below, member_mono, member_span, offset_same, walk_from, walk_mono}

pub first_start : {n : ℕ} {es : List Edge} → Shape n (members es) → 0 < n → (a : ℕ) → Grounded n (members es) a → Start es a (first_row n es a)
unfolding first_row
first_start shape some zero G = source_start shape some G
first_start shape some (suc a) G = after_start shape (omega arith) G

-- Returns need carry on the anchor alone. A member is reached by a chain, so its cell is not empty after n rounds; and what the cell says is attained and a bound.
module _ {n : ℕ} {es : List Edge} (some : 0 < n) (shape : Shape n (members es)) (never : NonPositive (members es)) {a : ℕ} (rooted : a ≡ 0 → Rooted n (members es)) (carries : Carries (members es) a) where
  ground : Grounded n (members es) a
  ground = grounded shape a carries rooted

  start : Start es a (first_row n es a)
  start = first_start shape some a ground

  abbrev row : List ℕ
  row = rounds es n (first_row n es a)

  member_reached : {v : ℕ} → v < n → InAnchorSet (members es) a v → (p : ℕ) × (q : ℕ) × Span (members es) a v p q
  member_reached {v = v} b (is_source h) = let J = rooted h v b in (J.p, J.q, source h (walk_from h (walk_mono (λ e m. m.0) J.walk)))
  member_reached b (chain c) = (c.p, c.q, after (after_mono (λ e m. m.0) c.walk))

  pub row_member : (v : ℕ) → v < n → InAnchorSet (members es) a v → 1 ≤ cell (rounds es n (first_row n es a)) v
  row_member v b i = let s = member_reached b i in (rounds_span shape (member_below shape b i) ground never start s.2).some

  pub row_reached : (v : ℕ) → 1 ≤ cell (rounds es n (first_row n es a)) v → InAnchorSet (members es) a v
  row_reached v h = go (cell row v) refl
    where
      go : (r : ℕ) → cell row v ≡ r → InAnchorSet (members es) a v
      go zero e = absurd (omega arith)
      go (suc o) e = member_span shape carries (rounds_under shape ground start n v o e).span

  pub row_offset : (v : ℕ) → v < n → InAnchorSet (members es) a v → Offset no_leasts (members es) a v (cell (rounds es n (first_row n es a)) v - 1)
  row_offset v b i = go (cell row v) refl (row_member v b i)
    where
      go : (r : ℕ) → cell row v ≡ r → 1 ≤ cell row v → Offset no_leasts (members es) a v (cell row v - 1)
      go zero h l = absurd (omega arith)
      go (suc o) h l =
          let e : cell row v - 1 ≡ o = omega arith in
          rw e (rounds_offset shape (member_below shape b i) ground never start v o h)

-- In a well-posed graph, over the edges that walks from the end of a may use.
pub usable_rooted : {n : ℕ} {es : List Edge} → Shape n (members es) → Rooted n (members es) → (a : ℕ) → Rooted n (members (usable es a))
usable_rooted {n} {es} shape rooted a v b = joined_mono (λ e m. (usable_members es a e (forwards_usable shape a e m).0, m.1)) (rooted v b)

pub usable_nonpositive : {es : List Edge} → NonPositive (members es) → (a : ℕ) → NonPositive (members (usable es a))
usable_nonpositive {es} never a = nonpositive_mono (λ e m. (members_usable es a e m).0) never

module _ {n : ℕ} {es : List Edge} (well : Well n (members es)) (posed : WellPosed (members es)) where
  listed : {a v : ℕ} → InAnchorSet (members es) a v → InAnchorSet (members (usable es a)) a v
  listed {a} i = member_mono (usable_members es a) (member_usable well.shape a i)

  pub offset_found : (a v : ℕ) → v < n → InAnchorSet (members es) a v → Offset no_leasts (UsableFrom (members es) a) a v (offset n no_leasts es a v)
  unfolding offset offset_row
  offset_found a v b i =
      offset_same
      (members_usable es a)
      (usable_members es a)
      (row_offset well.some (usable_list_shape well.shape a) (usable_nonpositive well.never a) (λ h. usable_rooted well.shape well.rooted a) (carries_list well.shape posed a) v b (listed i))

  -- A cell of an offset row is empty exactly where the anchor is no member.
  pub offset_row_iff : (a v : ℕ) → v < n → (1 ≤ cell (offset_row n es a) v) ↔ InAnchorSet (members es) a v
  unfolding offset_row
  offset_row_iff a v b = (
    λ h. member_mono (λ e m. (members_usable es a e m).0) (row_reached well.some (usable_list_shape well.shape a) (usable_nonpositive well.never a) (λ z. usable_rooted well.shape well.rooted a) (carries_list well.shape posed a) v h),
    λ i. row_member well.some (usable_list_shape well.shape a) (usable_nonpositive well.never a) (λ z. usable_rooted well.shape well.rooted a) (carries_list well.shape posed a) v b (listed i),
  )

-- A walk from the end of a never comes back to a, and so it is cut to fewer than n - 1 edges after the first.
module _ {n : ℕ} {E : Graph} (shape : Shape n E) (never : NonPositive E) {a : ℕ} (inside : a < n) where
  loop_or_few : {x y k p q : ℕ} → x < n → ((k p q : ℕ) → ¬ Walk E x a k p q) → Walk E x y k p q → Loop E x y k p q ⊎ (suc k < n)
  loop_or_few {x} {y} {k} {p} {q} b avoids w = go (loop_or_free shape b w)
    where
      apart : ¬ Memᴰ a (trail w)
      apart m = let s = split_at w m in avoids s.k₁ s.p₁ s.q₁ s.before

      go : Loop E x y k p q ⊎ (suc k + free n (trail w) ≡ n) → Loop E x y k p q ⊎ (suc k < n)
      go (inl s) = inl s
      go (inr e) = inr (omega (arith, free_take n a (trail w) inside apart))

  fewer_below : (fuel : ℕ) {x y k p q : ℕ} → k < fuel → x < n → ((k p q : ℕ) → ¬ Walk E x a k p q) → Walk E x y k p q → Short (n - 1) E x y p q
  fewer_below zero h b avoids w = absurd (omega arith)
  fewer_below (suc fuel) {x} {y} {k} {p} {q} h b avoids w =
      go (loop_or_few b avoids w) (λ s. fewer_below fuel (omega (arith, s.ks)) b avoids (join s.before s.behind))
    where
      go : Loop E x y k p q ⊎ (suc k < n) → ((s : Loop E x y k p q) → Short (n - 1) E x y (s.p₁ + s.p₃) (s.q₁ + s.q₃)) → Short (n - 1) E x y p q
      go (inr c) below = record { k₂ = k; p₂ = p; q₂ = q; few = omega arith; walk = w; heavy = omega arith }
      go (inl s) below =
          let r = below s in
          record { k₂ = r.k₂; p₂ = r.p₂; q₂ = r.q₂; few = r.few; walk = r.walk; heavy = omega (arith, r.heavy, s.ps, s.qs, never.closed s.round) }

-- An offset is at most what a first edge gains and n - 2 others do.
module _ (least : ℕ → ℕ) (f : ℕ) {n : ℕ} {E : Graph} {g : ℕ} (shape : Shape n E) (never : NonPositive E) (firsts : FirstGains least E f) (gains : Gains E g) where
  span_gain : {a v p q : ℕ} → ¬ After E a a → 0 < n → Span E a v p q → p ≤ least a + f + (n - 2) * g + q
  span_gain {a} {v} {p} {q} once b (source h w) =
      let s = shorten shape never (omega arith) w in
      let few : s.k₂ - 1 ≤ n - 2 = omega (arith, s.few) in
      let first : (e : Edge) → E e → e.from ≡ a → e.gain ≤ least a + f = λ e m l. subst (λ (x : ℕ). e.gain ≤ least x + f) l (firsts e m (inl (l ∙ h))) in
      omega (arith, s.heavy, walk_first_gain first gains s.walk, mul-le-mul_right g few)
  span_gain {a} {v} once b (after w) =
      let avoids : (k p q : ℕ) → ¬ Walk E w.edge.to a k p q = λ k p q u. once (after_by w.edge w.not_source w.mem w.leaves w.counts (record { k = k; p = p; q = q; walk = u })) in
      let inside : a < n = rw w.leaves at (shape.from_below w.edge w.mem) in
      let s = fewer_below shape never inside (suc w.k) (omega arith) (shape.to_below w.edge w.mem) avoids w.rest in
      let few : s.k₂ ≤ n - 2 = omega (arith, s.few) in
      let first : w.edge.gain ≤ least a + f = subst (λ (x : ℕ). w.edge.gain ≤ least x + f) w.leaves (firsts w.edge w.mem (inr w.counts)) in
      omega (arith, s.heavy, walk_gain gains s.walk, first, mul-le-mul_right g few, w.gains, w.losses)

  pub offset_small : {a v o : ℕ} → ¬ After E a a → 0 < n → Offset no_leasts E a v o → o ≤ least a + f + (n - 2) * g
  offset_small once b O = omega (arith, span_gain once b O.span, O.attained)

module _ (least : ℕ → ℕ) (f : ℕ) {n g : ℕ} {es : List Edge} (well : Well n (members es)) (posed : WellPosed (members es)) (firsts : FirstGains least (members es) f) (gains : Gains (members es) g) where
  pub offset_gains : (a v : ℕ) → v < n → InAnchorSet (members es) a v → offset n no_leasts es a v ≤ least a + f + (n - 2) * g
  offset_gains a v b i =
      offset_small
      least
      f
      (usable_shape well.shape a)
      (nonpositive_mono (usable_sub (members es) a) well.never)
      (λ e m. firsts e m.0)
      (λ e m. gains e m.0)
      (well.consistent a)
      well.some
      (offset_found well posed a v b i)

-- With the limits of a sheet: an offset is a walk's weight, and less, since its walk's first edge gains less than others may.
module _ {n : ℕ} {es : List Edge} (well : Well n (members es)) (posed : WellPosed (members es)) (gains : Gains (members es) most_gain) (few : n ≤ most_steps) where
  fewer : (n - 2) * most_gain ≤ (most_steps - 2) * most_gain
  fewer = let h : n - 2 ≤ most_steps - 2 = omega arith in mul-le-mul_right most_gain h

  pub walk_limit : (a v : ℕ) → v < n → InAnchorSet (members es) a v → offset n no_leasts es a v ≤ most_walk
  walk_limit a v b i = omega (arith, offset_gains no_leasts most_gain well posed (λ e m h. gains e m) gains a v b i, fewer)

  pub offset_limit : (least : ℕ → ℕ) → FirstGains least (members es) most_first_gain → (a v : ℕ) → v < n → InAnchorSet (members es) a v → offset n no_leasts es a v ≤ least a + most_offset
  offset_limit least firsts a v b i = omega (arith, offset_gains least most_first_gain well posed firsts gains a v b i, fewer)
