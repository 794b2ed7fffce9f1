-- Irredundant anchors: a member of an anchor set whose term another member's always reaches is left out of the largest; each that stays is the only largest for some delays.
use mathlib.Core.Path.{◌∙◌, ◌≡◌, ap, subst, sym}
use mathlib.Core.Logic.{◌≢◌, ◌⊎◌, inl, inr}
use Prim.Native.Nat.{◌+◌, ◌<◌, ◌≤◌, suc, zero, ℕ}
use native.Mathlib.Omega.{arith}
use native.Mathlib.Decide.{dec_le, dec_lt, ℕ_discrete}
use Rattle.definitions.specs.Anchors.{InAnchorSet, WellPosed, chain, is_source}
use Rattle.definitions.specs.Links.{After, Forward, Graph, Joined, LateInto, UsableFrom, Walk, no_leasts}
use Rattle.definitions.specs.Plan.{Offset, Span, after, source}
use Rattle.laws.proofs.Bools.{same_or_not}
use Rattle.theory.specs.Graphs.{Acyclic, Decides, Overrides, Relative, Shape}
use Rattle.theory.proofs.AnchorOrder.{anchor_induct, anchored_induct}
use Rattle.theory.proofs.Serialization.{Crossing, cross_after, late_back, reach_chain}
use Rattle.theory.proofs.Walks.{after_start_below, after_trans, chain_after, member_below, member_from, source_first, span_join}

-- A deciding member whose term is at least x.
pub record Outdone (E : Graph) (d S : ℕ → ℕ) (off : ℕ → ℕ → ℕ) (v x : ℕ) : Type 0 where
  pub anchor : ℕ
  pub decides : Decides E off anchor v
  pub enough : x ≤ S anchor + d anchor + off anchor v

-- A search below n.
pub search_below : (n : ℕ) (P : ℕ → Type 0) → ((i : ℕ) → Dec (P i)) → ((i : ℕ) × (i < n) × P i) ⊎ ((i : ℕ) → i < n → ¬ P i)
search_below zero P dec = inr (λ i h p. omega arith)
search_below (suc n) P dec = go (search_below n P dec) (dec n)
  where
    last : (i : ℕ) → i < suc n → ((i < n) ⊎ (i ≡ n))
    last i h = by (dec_lt i n)
      where
        by : Dec (i < n) → ((i < n) ⊎ (i ≡ n))
        by (yes c) = inl c
        by (no c) = inr (omega arith)

    none : ((i : ℕ) → i < n → ¬ P i) → ¬ P n → (i : ℕ) → ((i < n) ⊎ (i ≡ n)) → ¬ P i
    none f g i (inl c) = f i c
    none f g i (inr e) = λ p. g (subst P e p)

    go : ((i : ℕ) × (i < n) × P i) ⊎ ((i : ℕ) → i < n → ¬ P i) → Dec (P n) → ((i : ℕ) × (i < suc n) × P i) ⊎ ((i : ℕ) → i < suc n → ¬ P i)
    go (inl r) d = inl (r.0, omega (arith, r.1), r.2)
    go (inr f) (yes p) = inl (n, omega arith, p)
    go (inr f) (no g) = inr (λ i h. none f g i (last i h))

dec_overrides : {E : Graph} (off : ℕ → ℕ → ℕ) → ((a v : ℕ) → Dec (InAnchorSet E a v)) → (a v b : ℕ) → Dec (Overrides E off a v b)
dec_overrides {E} off dec a v b = go (ℕ_discrete b a) (dec b v) (dec a b) (dec_le (off a v) (off a b + off b v))
  where
    go : Dec (b ≡ a) → Dec (InAnchorSet E b v) → Dec (InAnchorSet E a b) → Dec (off a v ≤ off a b + off b v) → Dec (Overrides E off a v b)
    go (yes e) i j h = no (λ o. o.other e)
    go (no e) (no i) j h = no (λ o. i o.inside)
    go (no e) (yes i) (no j) h = no (λ o. j o.behind)
    go (no e) (yes i) (yes j) (no h) = no (λ o. h o.heavy)
    go (no e) (yes i) (yes j) (yes h) = yes (record { other = e; inside = i; behind = j; heavy = h })

pub decides_or_not : {n : ℕ} {E : Graph} → Shape n E → (off : ℕ → ℕ → ℕ) → ((a v : ℕ) → Dec (InAnchorSet E a v)) → (a v : ℕ) → v < n → InAnchorSet E a v → Decides E off a v ⊎ ((b : ℕ) × (b < n) × Overrides E off a v b)
decides_or_not {n} {E} shape off dec a v h i = go (search_below n (Overrides E off a v) (dec_overrides off dec a v))
  where
    go : ((b : ℕ) × (b < n) × Overrides E off a v b) ⊎ ((b : ℕ) → b < n → ¬ Overrides E off a v b) → Decides E off a v ⊎ ((b : ℕ) × (b < n) × Overrides E off a v b)
    go (inl r) = inr r
    go (inr f) = inl (record { inside = i; alone = λ b o. f b (member_below shape h o.inside) o })

-- The deciding members are enough. Who leaves a out stands behind a, and so following who leaves out whom ends at a member that stays.
module _ {n : ℕ} {E : Graph} {d S : ℕ → ℕ} {off : ℕ → ℕ → ℕ} (shape : Shape n E) (acyclic : Acyclic (Forward E)) (rooted : (v : ℕ) → v < n → Joined (Forward E) 0 v) (dec : (a v : ℕ) → Dec (InAnchorSet E a v)) (rel : Relative n E d S off) where
  passed_on : (v a b : ℕ) → v < n → b < n → Overrides E off a v b → Outdone E d S off v (S b + d b + off b v) → Outdone E d S off v (S a + d a + off a v)
  passed_on v a b h c o r =
      record { anchor = r.anchor; decides = r.decides; enough = omega (arith, r.enough, o.heavy, rel.above a b c o.behind) }

  not_source : (a v b : ℕ) → a < n → a ≢ 0 → Overrides E off a v b → b ≢ 0
  not_source a v b h z o e = go o.behind
    where
      go : InAnchorSet E a b → ⊥
      go (is_source i) = z i
      go (chain c) = source_first rooted acyclic h (subst (λ (w : ℕ). After (Forward E) a w) e c)

  outdone_after : (v : ℕ) → v < n → (a : ℕ) → a < n → a ≢ 0 → InAnchorSet E a v → Outdone E d S off v (S a + d a + off a v)
  outdone_after v h = anchored_induct n (Forward E) acyclic (λ a. a ≢ 0 → InAnchorSet E a v → Outdone E d S off v (S a + d a + off a v)) each
    where
      each : (a : ℕ) → a < n → ((b : ℕ) → b < n → After (Forward E) a b → b ≢ 0 → InAnchorSet E b v → Outdone E d S off v (S b + d b + off b v)) → a ≢ 0 → InAnchorSet E a v → Outdone E d S off v (S a + d a + off a v)
      each a c ih z i = go (decides_or_not shape off dec a v h i)
        where
          reached : (b : ℕ) → InAnchorSet E a b → After (Forward E) a b
          reached b (is_source e) = absurd (z e)
          reached b (chain w) = w

          go : Decides E off a v ⊎ ((b : ℕ) × (b < n) × Overrides E off a v b) → Outdone E d S off v (S a + d a + off a v)
          go (inl D) = record { anchor = a; decides = D; enough = omega arith }
          go (inr r) =
              let o = r.2 in
              passed_on v a r.0 h r.1 o (ih r.0 r.1 (reached r.0 o.behind) (not_source a v r.0 c z o) o.inside)

  -- For every member there is a deciding one whose term is no smaller.
  pub outdone : (v : ℕ) → v < n → (a : ℕ) → InAnchorSet E a v → Outdone E d S off v (S a + d a + off a v)
  outdone v h a i = by_source (same_or_not a 0)
    where
      at_source : a ≡ 0 → Decides E off a v ⊎ ((b : ℕ) × (b < n) × Overrides E off a v b) → Outdone E d S off v (S a + d a + off a v)
      at_source e (inl D) = record { anchor = a; decides = D; enough = omega arith }
      at_source e (inr r) = passed_on v a r.0 h r.1 r.2 (outdone_after v h r.0 r.1 (λ z. r.2.other (z ∙ sym e)) r.2.inside)

      by_source : (a ≡ 0) ⊎ (a ≢ 0) → Outdone E d S off v (S a + d a + off a v)
      by_source (inl e) = at_source e (decides_or_not shape off dec a v h i)
      by_source (inr e) = outdone_after v h a (member_below shape h i) e i

  -- So S v is the largest term of the deciding members: `above` bounds them all, and one of them attains it.
  pub deciding_attains : (v : ℕ) → v < n → (b : ℕ) × Decides E off b v × (S v ≡ S b + d b + off b v)
  deciding_attains v h =
      let A = rel.attained v h in
      let r = outdone v h A.anchor A.inside in
      (r.anchor, r.decides, omega (arith, A.equals, r.enough, rel.above r.anchor v h r.decides.inside))

-- The offsets' triangle, at an anchor b behind c. The walk of b's offset does not cross c by a late return, as b would stand before c then; so it makes c's walk longer.
module _ {n : ℕ} {E : Graph} (shape : Shape n E) (acyclic : Acyclic (Forward E)) (posed : WellPosed E) where
  crossing_free : {c b : ℕ} → After (Forward E) c b → ¬ Crossing E c b
  crossing_free {c} {b} i x = go (posed b x.edge x.mem.0 (late_back shape x.edge x.mem.0 x.into.0) (chain (reach_chain shape posed x.reaches)))
    where
      go : InAnchorSet E b x.edge.to ⊎ LateInto x.edge b → ⊥
      go (inr h) = x.mem.1 h
      go (inl (is_source h)) = x.reaches.walk.not_source h
      go (inl (chain w)) = acyclic c (after_trans i (subst (λ (y : ℕ). After (Forward E) b y) x.into.1 w))

  pub offset_triangle : {c b v o₁ o₂ o : ℕ} → After (Forward E) c b → b ≢ 0 → Offset no_leasts (UsableFrom E c) c b o₁ → Offset no_leasts (UsableFrom E b) b v o₂ → Offset no_leasts (UsableFrom E c) c v o → o₁ + o₂ ≤ o
  offset_triangle {c} {b} {v} {o₁} {o₂} {o} i z O₁ O₂ O = go O₂.span
    where
      by : {k : ℕ} → Walk (UsableFrom E c) b v k O₂.p O₂.q ⊎ Crossing E c b → o₁ + o₂ ≤ o
      by (inl w) = omega (arith, O₁.attained, O₂.attained, O.bound _ _ (span_join O₁.span w))
      by (inr x) = absurd (crossing_free i x)

      go : Span (UsableFrom E b) b v O₂.p O₂.q → o₁ + o₂ ≤ o
      go (source e w) = absurd (z e)
      go (after w) = by (cross_after shape c w)

-- The offsets go through an anchor; and none is above a limit.
abbrev Triangle : ℕ → Graph → (ℕ → ℕ → ℕ) → Type 0
Triangle n E off = (c b u : ℕ) → b < n → u < n → After (Forward E) c b → After (Forward E) b u → off c b + off b u ≤ off c u

abbrev pub Small : ℕ → Graph → (ℕ → ℕ → ℕ) → ℕ → Type 0
Small n E off limit = (b u : ℕ) → u < n → InAnchorSet E b u → off b u ≤ limit

-- Delays under which a alone lasts, for more than twice the limit; where a is the source none lasts.
pub record Alone (d : ℕ → ℕ) (limit a : ℕ) : Type 0 where
  pub long : a ≢ 0 → limit + limit < d a
  pub none : (b : ℕ) → b ≢ a → d b ≡ 0

-- Each deciding member a is needed. Let a last more than twice what any offset is, and every other step 0; where a is the source let none last. By induction along the anchors before v, the term of every other member is smaller:
-- its start is decided through a, and then the offsets leave it behind, or it does not depend on a at all.
module _ {n : ℕ} {E : Graph} {d S : ℕ → ℕ} {off : ℕ → ℕ → ℕ} {a v : ℕ} (shape : Shape n E) (acyclic : Acyclic (Forward E)) (rel : Relative n E d S off) (triangle : Triangle n E off) (inside : v < n) (stays : Decides E off a v) (limit : ℕ) (alone : Alone d limit a) (small : Small n E off limit) where
  abbrev Smaller : ℕ → Type 0
  Smaller b = S b + off b v < S a + d a + off a v

  smaller_source : (b : ℕ) → b ≢ a → b ≡ 0 → InAnchorSet E b v → Smaller b
  smaller_source b other e i = omega (arith, small b v inside i, ap S e, rel.starts, alone.long (λ z. other (e ∙ sym z)))

  -- b's term through the anchor c that sets b's start.
  smaller_by : (b : ℕ) → b < n → b ≢ a → After (Forward E) b v → (c : ℕ) → InAnchorSet E c b → S b ≡ S c + d c + off c b → ((x : ℕ) → x < n → After (Forward E) x b → x ≢ a → InAnchorSet E x v → Smaller x) → Dec (c ≡ a) → Smaller b
  smaller_by b h other w c i e ih (yes same) =
      let j : InAnchorSet E a b = member_from (sym same) i in
      go j (dec_le (off a v) (off a b + off b v))
    where
      go : InAnchorSet E a b → Dec (off a v ≤ off a b + off b v) → Smaller b
      go j (yes l) = absurd (stays.alone b (record { other = other; inside = chain w; behind = j; heavy = l }))
      go j (no l) = omega (arith, e, ap S same, ap d same, ap (λ (x : ℕ). off x b) same)
  smaller_by b h other w c (is_source s) e ih (no differs) =
      omega (arith, e, ap S s, rel.starts, alone.none c differs, small c b h (is_source s), small b v inside (chain w), alone.long (λ z. differs (s ∙ sym z)))
  smaller_by b h other w c (chain u) e ih (no differs) =
      let i : InAnchorSet E c v = chain (after_trans u w) in
      omega (
        arith,
        e,
        alone.none c differs,
        ih c (after_start_below shape (chain_after u)) u differs i,
        triangle c b v h inside u w,
      )

  smaller : (b : ℕ) → b < n → b ≢ a → InAnchorSet E b v → Smaller b
  smaller = anchor_induct n (Forward E) acyclic (λ b. b ≢ a → InAnchorSet E b v → Smaller b) each
    where
      each : (b : ℕ) → b < n → ((x : ℕ) → x < n → After (Forward E) x b → x ≢ a → InAnchorSet E x v → Smaller x) → b ≢ a → InAnchorSet E b v → Smaller b
      each b h ih other (is_source e) = smaller_source b other e (is_source e)
      each b h ih other (chain w) =
          let A = rel.attained b h in
          smaller_by b h other w A.anchor A.inside A.equals ih (ℕ_discrete A.anchor a)

  pub strictly_largest : (b : ℕ) → b ≢ a → InAnchorSet E b v → S b + d b + off b v < S a + d a + off a v
  strictly_largest b other i = omega (arith, smaller b (member_below shape inside i) other i, alone.none b other)
