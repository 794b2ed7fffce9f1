-- Walks: joined, moved to equal ends, carried to a larger graph; what they say of start times; anchor sets are closed under the edges of a well-posed graph.
use mathlib.Core.Path.{◌∙◌, ◌≡◌, ap, refl, sym}
use mathlib.Core.Bool.{false, true}
use mathlib.Core.Logic.{◌≢◌, ◌⊎◌, inl, inr}
use Prim.Native.Nat.{◌+◌, ◌<◌, ◌≤◌, suc, ℕ}
use native.Mathlib.Omega.{arith}
use Rattle.definitions.specs.Anchors.{InAnchorSet, chain, is_source}
use Rattle.definitions.specs.Links.{After, AfterWalk, Edge, Forward, Graph, Joined, Walk, ◌⊑◌, step, stop}
use Rattle.definitions.specs.Plan.{Offset, Span, after, source}
use Rattle.laws.proofs.Bools.{bool_cases, both_ways, cond_false, cond_true, same_or_not}
use Rattle.theory.specs.Graphs.{Acyclic, Carries, Schedule, Shape, Timely}

-- The ends and the sums of a walk, replaced by equal ones.
pub walk_to : {E : Graph} {x y k p q y' k' p' q' : ℕ} → Walk E x y k p q → y ≡ y' → k' ≡ k → p' ≡ p → q' ≡ q → Walk E x y' k' p' q'
walk_to (stop e hk hp hq) ey ek ep eq = stop (e ∙ ey) (ek ∙ hk) (ep ∙ hp) (eq ∙ hq)
walk_to (step w e m f o hk hp hq) ey ek ep eq = step w e m f (o ∙ ey) (ek ∙ hk) (ep ∙ hp) (eq ∙ hq)

pub walk_from : {E : Graph} {x y k p q x' : ℕ} → x' ≡ x → Walk E x y k p q → Walk E x' y k p q
walk_from ex (stop e hk hp hq) = stop (ex ∙ e) hk hp hq
walk_from ex (step w e m f o hk hp hq) = step (walk_from ex w) e m f o hk hp hq

-- A walk of a smaller graph is one of a larger.
pub walk_mono : {E F : Graph} {x y k p q : ℕ} → E ⊑ F → Walk E x y k p q → Walk F x y k p q
walk_mono i (stop e hk hp hq) = stop e hk hp hq
walk_mono i (step w e m f o hk hp hq) = step (walk_mono i w) e (i e m) f o hk hp hq

-- No edge, one edge, and one walk after another.
pub walk_none : {E : Graph} (x : ℕ) → Walk E x x 0 0 0
walk_none x = stop refl refl refl refl

pub walk_edge : {E : Graph} (e : Edge) → E e → Walk E e.from e.to 1 e.gain e.loss
walk_edge e m = step {k' = 1} {p' = e.gain} {q' = e.loss} (walk_none e.from) e m refl refl refl (omega arith) (omega arith)

pub join : {E : Graph} {x y z k p q k' p' q' : ℕ} → Walk E x y k p q → Walk E y z k' p' q' → Walk E x z (k + k') (p + p') (q + q')
join {k = k} {p = p} {q = q} {k' = k'} {p' = p'} {q' = q'} w (stop e hk hp hq) = walk_to {k' = k + k'} {p' = p + p'} {q' = q + q'} w e (omega arith) (omega arith) (omega arith)
join {k = k} {p = p} {q = q} {k' = k'} {p' = p'} {q' = q'} w (step v e m f o hk hp hq) = step {k' = k + k'} {p' = p + p'} {q' = q + q'} (join w v) e m f o (omega arith) (omega arith) (omega arith)

-- The same for walks that begin with a counted edge out of a.
pub after_join : {E : Graph} {a y z p q k' p' q' : ℕ} → AfterWalk E a y p q → Walk E y z k' p' q' → AfterWalk E a z (p + p') (q + q')
after_join {k' = k'} {p' = p'} {q' = q'} w v = record {
  not_source = w.not_source;
  edge = w.edge;
  mem = w.mem;
  leaves = w.leaves;
  counts = w.counts;
  k = w.k + k';
  g = w.g + p';
  l = w.l + q';
  rest = join w.rest v;
  gains = omega (arith, w.gains);
  losses = omega (arith, w.losses);
}

pub after_edge : {E : Graph} (e : Edge) → E e → e.counted ≡ true → e.from ≢ 0 → AfterWalk E e.from e.to e.gain e.loss
after_edge e m c z =
    record { not_source = z; edge = e; mem = m; leaves = refl; counts = c; k = 0; g = 0; l = 0; rest = walk_none e.to; gains = omega arith; losses = omega arith }

pub after_from : {E : Graph} {a b y p q : ℕ} → b ≡ a → AfterWalk E a y p q → AfterWalk E b y p q
after_from h w =
    record { not_source = λ z. w.not_source (sym h ∙ z); edge = w.edge; mem = w.mem; leaves = w.leaves ∙ sym h; counts = w.counts; k = w.k; g = w.g; l = w.l; rest = w.rest; gains = w.gains; losses = w.losses }

pub after_to : {E : Graph} {a y z p q : ℕ} → y ≡ z → AfterWalk E a y p q → AfterWalk E a z p q
after_to h w = record {
  not_source = w.not_source;
  edge = w.edge;
  mem = w.mem;
  leaves = w.leaves;
  counts = w.counts;
  k = w.k;
  g = w.g;
  l = w.l;
  rest = walk_to w.rest h refl refl refl;
  gains = w.gains;
  losses = w.losses;
}

pub after_mono : {E F : Graph} {a y p q : ℕ} → E ⊑ F → AfterWalk E a y p q → AfterWalk F a y p q
after_mono i w = record {
  not_source = w.not_source;
  edge = w.edge;
  mem = i w.edge w.mem;
  leaves = w.leaves;
  counts = w.counts;
  k = w.k;
  g = w.g;
  l = w.l;
  rest = walk_mono i w.rest;
  gains = w.gains;
  losses = w.losses;
}

-- The walk that an AfterWalk is: of at least one edge.
pub after_walk : {E : Graph} {a y p q : ℕ} (w : AfterWalk E a y p q) → Walk E a y (suc w.k) p q
after_walk w = walk_to {k' = suc w.k} (join (walk_from (sym w.leaves) (walk_edge w.edge w.mem)) w.rest) refl (omega arith) w.gains w.losses

pub span_join : {E : Graph} {a y z p q k' p' q' : ℕ} → Span E a y p q → Walk E y z k' p' q' → Span E a z (p + p') (q + q')
span_join (source h w) v = source h (join w v)
span_join (after w) v = after (after_join w v)

pub some_after : {E : Graph} {a y p q : ℕ} → AfterWalk E a y p q → After E a y
some_after {p = p} {q = q} w = record { p = p; q = q; walk = w }

-- A first counted edge out of a, and a walk from its end.
pub after_by : {E : Graph} {a v : ℕ} (e : Edge) → a ≢ 0 → E e → e.from ≡ a → e.counted ≡ true → Joined E e.to v → After E a v
after_by e z m f c J =
    record { p = e.gain + J.p; q = e.loss + J.q; walk = record { not_source = z; edge = e; mem = m; leaves = f; counts = c; k = J.k; g = J.p; l = J.q; rest = J.walk; gains = refl; losses = refl } }

-- Membership in anchor sets: at equal steps, along a forward edge, in a larger graph.
pub member_to : {E : Graph} {a v w : ℕ} → v ≡ w → InAnchorSet E a v → InAnchorSet E a w
member_to h (is_source e) = is_source e
member_to h (chain c) = chain (some_after (after_to h c.walk))

pub member_from : {E : Graph} {a b v : ℕ} → b ≡ a → InAnchorSet E a v → InAnchorSet E b v
member_from h (is_source e) = is_source (h ∙ e)
member_from h (chain c) = chain (some_after (after_from h c.walk))

pub member_forward : {E : Graph} {a : ℕ} (e : Edge) → E e → e.back ≡ false → InAnchorSet E a e.from → InAnchorSet E a e.to
member_forward e m b (is_source h) = is_source h
member_forward {E} e m b (chain c) = chain (some_after (after_join c.walk (walk_edge {E = Forward E} e (m, b))))

pub member_mono : {E F : Graph} {a v : ℕ} → E ⊑ F → InAnchorSet E a v → InAnchorSet F a v
member_mono i (is_source e) = is_source e
member_mono i (chain c) = chain (some_after (after_mono (λ e m. (i e m.0, m.1)) c.walk))

-- Where returns carry a member on every edge does: a forward edge by its chain. So a walk does.
module _ {E : Graph} {a : ℕ} (carries : Carries E a) where
  pub member_edge : (e : Edge) → E e → InAnchorSet E a e.from → InAnchorSet E a e.to
  member_edge e m h = go (bool_cases e.back)
    where
      go : (e.back ≡ true) ⊎ (e.back ≡ false) → InAnchorSet E a e.to
      go (inl b) = carries e m b h
      go (inr b) = member_forward e m b h

  pub member_walk : {x y k p q : ℕ} → InAnchorSet E a x → Walk E x y k p q → InAnchorSet E a y
  member_walk h (stop e hk hp hq) = member_to e h
  member_walk h (step w e m f o hk hp hq) = member_to o (member_edge e m (member_to (sym f) (member_walk h w)))

-- A counted edge is a forward one, and so its start is a member at its end; from there a walk carries it on.
module _ {n : ℕ} {E : Graph} (shape : Shape n E) where
  pub counted_forward : (e : Edge) → E e → e.counted ≡ true → e.back ≡ false
  counted_forward e m c = go (bool_cases e.back)
    where
      go : (e.back ≡ true) ⊎ (e.back ≡ false) → e.back ≡ false
      go (inl b) = absurd (both_ways c (shape.back_uncounted e m b))
      go (inr b) = b

  pub member_counted : (e : Edge) → E e → e.counted ≡ true → InAnchorSet E e.from e.to
  member_counted e m c = go (same_or_not e.from 0)
    where
      go : (e.from ≡ 0) ⊎ (e.from ≢ 0) → InAnchorSet E e.from e.to
      go (inl h) = is_source h
      go (inr h) = chain (some_after (after_edge {E = Forward E} e (m, counted_forward e m c) c h))

  pub member_after : {a y p q : ℕ} → Carries E a → AfterWalk E a y p q → InAnchorSet E a y
  member_after carries w = member_walk carries (member_from (sym w.leaves) (member_counted w.edge w.mem w.counts)) w.rest

  pub member_span : {a y p q : ℕ} → Carries E a → Span E a y p q → InAnchorSet E a y
  member_span carries (source h w) = is_source h
  member_span carries (after w) = member_after carries w

-- Walks that begin with a counted edge follow each other; their first vertex is one of the graph's.
pub after_trans : {E : Graph} {a b c : ℕ} → After E a b → After E b c → After E a c
after_trans v w = some_after (after_join v.walk (after_walk w.walk))

pub after_start_below : {n : ℕ} {E : Graph} {a v : ℕ} → Shape n E → After E a v → a < n
after_start_below shape w = rw w.walk.leaves at (shape.from_below w.walk.edge w.walk.mem)

pub after_joined : {E : Graph} {x y : ℕ} → After E x y → Joined E x y
after_joined w = record { k = _; p = _; q = _; walk = after_walk w.walk }

pub joined_mono : {E F : Graph} {x y : ℕ} → E ⊑ F → Joined E x y → Joined F x y
joined_mono i J = record { k = J.k; p = J.p; q = J.q; walk = walk_mono i J.walk }

-- A chain is a walk of the whole graph.
pub chain_after : {E : Graph} {a v : ℕ} → After (Forward E) a v → After E a v
chain_after w = some_after (after_mono (λ e m. m.0) w.walk)

pub member_below : {n : ℕ} {E : Graph} {a v : ℕ} → Shape n E → v < n → InAnchorSet E a v → a < n
member_below shape b (is_source h) = omega arith
member_below shape b (chain c) = after_start_below shape (chain_after c)

-- A chain loses nothing.
pub forward_losses : {n : ℕ} {F : Graph} {x y k p q : ℕ} → Shape n F → Walk (Forward F) x y k p q → q ≡ 0
forward_losses shape (stop e hk hp hq) = hq
forward_losses shape (step w e m f o hk hp hq) = omega (arith, forward_losses shape w, shape.forward_lossless e m.0 m.1)

-- No open step comes before the source, where the source reaches every vertex: a walk would close.
pub source_first : {n : ℕ} {E : Graph} {a : ℕ} → ((v : ℕ) → v < n → Joined E 0 v) → Acyclic E → a < n → ¬ After E a 0
source_first {a = a} rooted acyclic b w = acyclic a (some_after (after_join w.walk (rooted a b).walk))

-- Where no return is late, a walk bounds start times from below: add up what its edges ask. Where it begins with a counted edge out of a, the delay of a counts too.
module _ {E : Graph} {d t : ℕ → ℕ} (timely : Timely E) (s : Schedule E d t) where
  walk_bound : {x y k p q : ℕ} → Walk E x y k p q → t x + p ≤ t y + q
  walk_bound (stop e hk hp hq) = omega (arith, ap t e)
  walk_bound (step w e m f o hk hp hq) = omega (arith, walk_bound w, s.keeps e m, cond_false (d e.to) 0 (timely e m), ap t f, ap t o)

  pub after_bound : {a y p q : ℕ} → AfterWalk E a y p q → t a + d a + p ≤ t y + q
  after_bound w =
      omega (
        arith,
        walk_bound w.rest,
        s.keeps w.edge w.mem,
        cond_true (d w.edge.from) 0 w.counts,
        cond_false (d w.edge.to) 0 (timely w.edge w.mem),
        ap t w.leaves,
        ap d w.leaves,
      )

  pub span_bound : {a v p q : ℕ} → d 0 ≡ 0 → Span E a v p q → t a + d a + p ≤ t v + q
  span_bound d0 (source h w) = omega (arith, walk_bound w, ap d h, d0)
  span_bound d0 (after w) = after_bound w

-- Start times that keep a graph keep a smaller one.
pub schedule_mono : {E F : Graph} {d t : ℕ → ℕ} → E ⊑ F → Schedule F d t → Schedule E d t
schedule_mono i s = record { starts = s.starts; keeps = λ e m. s.keeps e (i e m) }

-- The walks of an offset, and the offset, in a graph with the same edges.
span_mono : {E F : Graph} {a v p q : ℕ} → E ⊑ F → Span E a v p q → Span F a v p q
span_mono i (source h w) = source h (walk_mono i w)
span_mono i (after w) = after (after_mono i w)

pub offset_same : {least : ℕ → ℕ} {E F : Graph} {a v o : ℕ} → E ⊑ F → F ⊑ E → Offset least E a v o → Offset least F a v o
offset_same i j O = record { p = O.p; q = O.q; span = span_mono i O.span; attained = O.attained; bound = λ p q s. O.bound p q (span_mono j s) }
