-- The executable tests of walks, anchor sets and well-posedness say what the relations say. Rounds on the edges with their weights taken away mark what a walk reaches.
use mathlib.Core.Path.{◌∙◌, ◌≡◌, ap, refl, subst, sym}
use mathlib.Core.Bool.{Bool, ◌&&◌, ◌||◌, false, not, true}
use mathlib.Core.Logic.{◌↔◌, ◌≢◌, ◌⊎◌, inl, inr}
use mathlib.Core.List.Memᴰ
use mathlib.Core.List.{List, Memᴰ, [], ◌∷◌}
use Prim.Native.Nat.{◌<◌, ◌≤◌, suc, zero, ℕ}
use native.Mathlib.Omega.{arith}
use native.Mathlib.Decide.{dec_le}
use lib.Dec.{eqb}
use lib.ListN.{length, replicate}
use borrow.Author.Tests.{eq-eqb, eqb-false, eqb-true, lt-ltb, ltb-true, ne_eqb, not-true}
use Rattle.definitions.specs.Anchors.{InAnchorSet, WellPosed, chain, in_anchor_set, is_source, well_posed}
use Rattle.definitions.specs.Basics.{all_below, any}
use Rattle.definitions.specs.Links.{After, Edge, Forward, Graph, Joined, LateInto, Walk, ◌⊑◌, forwards, late_into, members, step, stop}
use Rattle.definitions.specs.Rounds.{after_reaches, bare, bares, cell, extend, offer, raise, reaches, relax, round, rounds, source_row}
use Rattle.laws.proofs.Bools.{and_join, and_split, bool_cases, both_ways, or_left, or_right, or_split, same_or_not, test_decides}
use Rattle.laws.proofs.Lists.{mem_without, without_mem, zeros_at}
use Rattle.laws.proofs.Tests.{all_below_by, all_below_each, all_by, all_each, any_by, any_has}
use Rattle.theory.specs.Graphs.{NonPositive, Shape}
use Rattle.theory.proofs.FirstRows.{zeros_length}
use Rattle.theory.proofs.Pigeonhole.{shorten}
use Rattle.theory.proofs.Relaxation.{Covers, Fits, fits_head, fits_relax, fits_rounds, raise_length, raise_other, raise_same, rounds_rise, walk_covered}
use Rattle.theory.proofs.Usables.{late_into_iff, shape_part}
use Rattle.theory.proofs.Walks.{after_by, after_mono, member_below, some_after, walk_none}

-- The forward edges of a list are those of its graph.
pub forwards_mem : (es : List Edge) → Forward (members es) ⊑ members (forwards es)
unfolding forwards
forwards_mem es e m = without_mem (λ x. x.back) es m.0 m.1

pub mem_forwards : (es : List Edge) → members (forwards es) ⊑ Forward (members es)
unfolding forwards
mem_forwards es e m = mem_without (λ x. x.back) es m

pub forwards_shape : {n : ℕ} {es : List Edge} → Shape n (members es) → Shape n (members (forwards es))
forwards_shape {n} {es} shape = shape_part (λ e m. (mem_forwards es e m).0) shape

-- Edges without their weights: the same walks, each of weight 0. What holds of each bared edge holds of each edge of the bared list.
mem_bare : {e : Edge} {es : List Edge} → Memᴰ e es → Memᴰ (bare e) (bares es)
unfolding bares
mem_bare m = Memᴰ.map bare m

bare_each : (es : List Edge) (P : Edge → Type 0) → ((x : Edge) → members es x → P (bare x)) → (e : Edge) → members (bares es) e → P e
unfolding bares
bare_each es P h e m = let r = Memᴰ.of_map bare es m in subst P r.2 (h r.0 r.1)

bare_walk : {es : List Edge} {x y k p q : ℕ} → Walk (members es) x y k p q → Walk (members (bares es)) x y k 0 0
bare_walk (stop e hk hp hq) = stop e hk refl refl
bare_walk (step w e m f o hk hp hq) = step {p' = 0} {q' = 0} (bare_walk w) (bare e) (mem_bare m) f o hk (omega arith) (omega arith)

walk_bare : {es : List Edge} {x y k p q : ℕ} → Walk (members (bares es)) x y k p q → Joined (members es) x y × (p ≡ 0)
unfolding bares
walk_bare (stop e hk hp hq) = (record { k = 0; p = 0; q = 0; walk = stop e refl refl refl }, hp)
walk_bare {es} (step w e m f o hk hp hq) =
    let r = walk_bare w in
    let b = Memᴰ.of_map bare es m in
    let longer = step r.0.walk b.0 b.1 (ap (λ (x : Edge). x.from) b.2 ∙ f) (ap (λ (x : Edge). x.to) b.2 ∙ o) refl refl refl in
    (record { k = _; p = _; q = _; walk = longer }, omega (arith, r.1, ap (λ (x : Edge). x.gain) b.2))

bare_shape : {n : ℕ} {es : List Edge} → Shape n (members es) → Shape n (members (bares es))
bare_shape {n} {es} shape = record {
  from_below = bare_each es (λ e. e.from < n) shape.from_below;
  to_below = bare_each es (λ e. e.to < n) shape.to_below;
  back_uncounted = bare_each es (λ e. e.back ≡ true → e.counted ≡ false) shape.back_uncounted;
  forward_lossless = bare_each es (λ e. e.back ≡ false → e.loss ≡ 0) (λ x m b. refl);
  forward_timely = bare_each es (λ e. e.back ≡ false → e.late ≡ false) shape.forward_timely;
  late_not_source = bare_each es (λ e. e.late ≡ true → e.to ≢ 0) shape.late_not_source;
}

bare_nonpositive : (es : List Edge) → NonPositive (members (bares es))
bare_nonpositive es = record { closed = λ w. let r = walk_bare w in omega (arith, r.1) }

-- A row marks only what a walk from x reaches; a round keeps that.
abbrev Marks : Graph → ℕ → List ℕ → Type 0
Marks E x row = (v : ℕ) → 1 ≤ cell row v → Joined E x v

extended_some : (r g l : ℕ) → 1 ≤ extend r g l → 1 ≤ r
unfolding extend
extended_some zero g l h = omega arith
extended_some (suc r) g l h = omega arith

joined_edge : {E : Graph} {x : ℕ} (e : Edge) → E e → Joined E x e.from → Joined E x e.to
joined_edge e m J = record { k = _; p = _; q = _; walk = step J.walk e m refl refl refl refl refl }

raise_marks : {E : Graph} {x : ℕ} (row : List ℕ) (v c : ℕ) → v < length row → (1 ≤ c → Joined E x v) → Marks E x row → Marks E x (raise row v c)
raise_marks {E} {x} row v c b J M u h = go (same_or_not u v)
  where
    larger : u ≡ v → Dec (1 ≤ c) → Joined E x u
    larger e (yes l) = subst (λ (w : ℕ). Joined E x w) (sym e) (J l)
    larger e (no l) = M u (omega (arith, raise_same row v c b, ap (cell row) e, ap (cell (raise row v c)) e))

    go : (u ≡ v) ⊎ (u ≢ v) → Joined E x u
    go (inl e) = larger e (dec_le 1 c)
    go (inr e) = M u (omega (arith, raise_other row v c u e))

round_marks : {E : Graph} {x : ℕ} (es : List Edge) (row : List ℕ) → Fits es row → members es ⊑ E → Marks E x row → Marks E x (round es row)
unfolding round
round_marks [] row h i M = M
round_marks (y ∷ es) row h i M =
    round_marks
    es
    (relax row y)
    (fits_relax row h)
    (λ e m. i e (Memᴰ.tail m))
    (raise_marks row y.to (offer row y) (fits_head row h) (λ s. joined_edge y (i y (Memᴰ.head refl)) (M y.from (extended_some (cell row y.from) y.gain y.loss s))) M)

rounds_marks : {x : ℕ} (es : List Edge) (k : ℕ) (row : List ℕ) → Fits es row → Marks (members es) x row → Marks (members es) x (rounds es k row)
unfolding rounds
rounds_marks es zero row h M = M
rounds_marks es (suc k) row h M = round_marks es (rounds es k row) (fits_rounds k row h) (λ e m. m) (rounds_marks es k row h M)

-- The row of the empty walk at x.
module _ {n : ℕ} {x : ℕ} (inside : x < n) where
  zeros_inside : x < length (replicate {A = ℕ} n 0)
  zeros_inside = omega (arith, zeros_length n)

  source_row_length : length (source_row n x) ≡ n
  unfolding source_row
  source_row_length = raise_length (replicate n 0) x 1 ∙ zeros_length n

  source_row_covers : Covers (cell (source_row n x) x) 0 0
  unfolding source_row
  source_row_covers =
      record { some = omega (arith, raise_same (replicate n 0) x 1 zeros_inside); enough = omega (arith, raise_same (replicate n 0) x 1 zeros_inside) }

  source_row_marks : (E : Graph) → Marks E x (source_row n x)
  unfolding source_row
  source_row_marks E =
      raise_marks
      (replicate n 0)
      x
      1
      zeros_inside
      (λ h. record { k = 0; p = 0; q = 0; walk = walk_none x })
      (λ v h. absurd (omega (arith, zeros_at n v)))

module _ {n : ℕ} {es : List Edge} (shape : Shape n (members es)) where
  -- A walk is cut to fewer than n edges, and so n rounds find it; and what a row marks is reached.
  bare_fits : {x : ℕ} → x < n → Fits (bares es) (source_row n x)
  bare_fits b e m = omega (arith, (bare_shape shape).to_below e m, source_row_length b)

  pub reaches_joined : {x : ℕ} → x < n → (v : ℕ) → reaches n es x v ≡ true → Joined (members es) x v
  unfolding reaches
  reaches_joined {x} b v h =
      (walk_bare
      (rounds_marks (bares es) n (source_row n x) (bare_fits b) (source_row_marks b (members (bares es))) v (ltb-true 0 (cell (rounds (bares es) n (source_row n x)) v) h)).walk
      ).0

  pub joined_reaches : {x v : ℕ} → x < n → Joined (members es) x v → reaches n es x v ≡ true
  unfolding reaches
  joined_reaches {x} {v} b J =
      let s = shorten (bare_shape shape) (bare_nonpositive es) b (bare_walk J.walk) in
      let c = walk_covered (source_row n x) (bare_fits b) 0 0 (source_row_covers b) s.walk in
      let u = rounds_rise (bares es) s.k₂ n (source_row n x) (bare_fits b) (omega (arith, s.few)) v in
      lt-ltb 0 (cell (rounds (bares es) n (source_row n x)) v) (omega (arith, c.some, u))

  pub reaches_iff : {x : ℕ} → x < n → (v : ℕ) → (reaches n es x v ≡ true) ↔ Joined (members es) x v
  reaches_iff b v = (reaches_joined b v, joined_reaches b)

  -- A walk that begins with a counted edge out of a: its first edge, and a walk from that edge's end.
  pub after_reaches_iff : (a v : ℕ) → (after_reaches n es a v ≡ true) ↔ After (members es) a v
  unfolding after_reaches
  after_reaches_iff a v = (found, test)
    where
      found : (not (eqb a 0) && any (λ e. e.counted && eqb e.from a && reaches n es e.to v) es) ≡ true → After (members es) a v
      found h =
          let r = and_split (not (eqb a 0)) (any (λ e. e.counted && eqb e.from a && reaches n es e.to v) es) h in
          let s = any_has (λ e. e.counted && eqb e.from a && reaches n es e.to v) es r.1 in
          let t = and_split (s.0.counted && eqb s.0.from a) (reaches n es s.0.to v) s.2 in
          let u = and_split s.0.counted (eqb s.0.from a) t.0 in
          after_by s.0 (eqb-false a 0 (not-true (eqb a 0) r.0)) s.1 (eqb-true s.0.from a u.1) u.0 (reaches_joined (shape.to_below s.0 s.1) v t.1)

      test : After (members es) a v → (not (eqb a 0) && any (λ e. e.counted && eqb e.from a && reaches n es e.to v) es) ≡ true
      test w =
          let u = w.walk in
          and_join
          (ap not (ne_eqb a 0 u.not_source))
          (any_by
          (λ e. e.counted && eqb e.from a && reaches n es e.to v)
          es
          u.mem
          (and_join (and_join u.counts (eq-eqb u.edge.from a u.leaves)) (joined_reaches (shape.to_below u.edge u.mem) (record { k = u.k; p = u.g; q = u.l; walk = u.rest }))))

-- Anchor sets: the same on the forward edges.
module _ {n : ℕ} {es : List Edge} (shape : Shape n (members es)) where
  pub in_anchor_set_iff : (a v : ℕ) → (in_anchor_set n es a v ≡ true) ↔ InAnchorSet (members es) a v
  unfolding in_anchor_set
  in_anchor_set_iff a v = (λ h. found (or_split (eqb a 0) (after_reaches n (forwards es) a v) h), test)
    where
      found : (eqb a 0 ≡ true) ⊎ (after_reaches n (forwards es) a v ≡ true) → InAnchorSet (members es) a v
      found (inl h) = is_source (eqb-true a 0 h)
      found (inr h) = chain (some_after (after_mono (mem_forwards es) ((after_reaches_iff (forwards_shape shape) a v).0 h).walk))

      test : InAnchorSet (members es) a v → (eqb a 0 || after_reaches n (forwards es) a v) ≡ true
      test (is_source h) = or_left (after_reaches n (forwards es) a v) (eq-eqb a 0 h)
      test (chain w) = or_right (eqb a 0) ((after_reaches_iff (forwards_shape shape) a v).1 (some_after (after_mono (forwards_mem es) w.walk)))

  pub dec_member : (a v : ℕ) → Dec (InAnchorSet (members es) a v)
  dec_member a v = test_decides (in_anchor_set_iff a v)

  -- Well-posed: a member of a return's start is below n, so the test has tried it.
  pub well_posed_iff : (well_posed n es ≡ true) ↔ WellPosed (members es)
  unfolding well_posed
  well_posed_iff = (λ h a e m b i. found e m b a i (all_each per_edge es h e m), λ posed. all_by per_edge es (λ e m. test posed e m (bool_cases e.back)))
    where
      per_anchor : Edge → ℕ → Bool
      per_anchor e a = not (in_anchor_set n es a e.from) || (in_anchor_set n es a e.to || late_into a e)

      per_edge : Edge → Bool
      per_edge e = not e.back || all_below (per_anchor e) n

      found : (e : Edge) → Memᴰ e es → e.back ≡ true → (a : ℕ) → InAnchorSet (members es) a e.from → per_edge e ≡ true → InAnchorSet (members es) a e.to ⊎ LateInto e a
      found e m b a i h = on_edge (or_split (not e.back) (all_below (per_anchor e) n) h)
        where
          on_end : (in_anchor_set n es a e.to ≡ true) ⊎ (late_into a e ≡ true) → InAnchorSet (members es) a e.to ⊎ LateInto e a
          on_end (inl z) = inl ((in_anchor_set_iff a e.to).0 z)
          on_end (inr z) = inr ((late_into_iff e a).0 z)

          on_anchor : (not (in_anchor_set n es a e.from) ≡ true) ⊎ ((in_anchor_set n es a e.to || late_into a e) ≡ true) → InAnchorSet (members es) a e.to ⊎ LateInto e a
          on_anchor (inl z) = absurd (both_ways ((in_anchor_set_iff a e.from).1 i) (not-true (in_anchor_set n es a e.from) z))
          on_anchor (inr z) = on_end (or_split (in_anchor_set n es a e.to) (late_into a e) z)

          on_edge : (not e.back ≡ true) ⊎ (all_below (per_anchor e) n ≡ true) → InAnchorSet (members es) a e.to ⊎ LateInto e a
          on_edge (inl z) = absurd (both_ways b (not-true e.back z))
          on_edge (inr z) =
              on_anchor
              (or_split
              (not (in_anchor_set n es a e.from))
              (in_anchor_set n es a e.to || late_into a e)
              (all_below_each (per_anchor e) n z a (member_below shape (shape.from_below e m) i)))

      test : WellPosed (members es) → (e : Edge) → Memᴰ e es → (e.back ≡ true) ⊎ (e.back ≡ false) → per_edge e ≡ true
      test posed e m (inr b) = or_left (all_below (per_anchor e) n) (ap not b)
      test posed e m (inl b) = or_right (not e.back) (all_below_by (per_anchor e) n (λ a c. by a (bool_cases (in_anchor_set n es a e.from))))
        where
          by : (a : ℕ) → (in_anchor_set n es a e.from ≡ true) ⊎ (in_anchor_set n es a e.from ≡ false) → per_anchor e a ≡ true
          by a (inl i) = or_right (not (in_anchor_set n es a e.from)) (end (posed a e m b ((in_anchor_set_iff a e.from).0 i)))
            where
              end : InAnchorSet (members es) a e.to ⊎ LateInto e a → (in_anchor_set n es a e.to || late_into a e) ≡ true
              end (inl j) = or_left (late_into a e) ((in_anchor_set_iff a e.to).1 j)
              end (inr j) = or_right (in_anchor_set n es a e.to) ((late_into_iff e a).1 j)
          by a (inr i) = or_left (in_anchor_set n es a e.to || late_into a e) (ap not i)
