-- The relative schedule keeps every edge of a well-posed graph; and where no return is late it is the least that does.
use mathlib.Core.Path.{◌≡◌, ap, refl, subst}
use mathlib.Core.Bool.{cond, false, true}
use mathlib.Core.Logic.{◌≢◌, ◌⊎◌, inl, inr}
use Prim.Native.Nat.{◌+◌, ◌<◌, ◌≤◌, suc, ℕ}
use native.Mathlib.Omega.{arith}
use Rattle.definitions.specs.Anchors.{InAnchorSet, WellPosed, chain, is_source}
use Rattle.definitions.specs.Links.{After, Edge, Forward, Graph, LateInto, UsableFrom, Walk, no_leasts}
use Rattle.definitions.specs.Plan.{Offset, Span, after, source}
use Rattle.laws.proofs.Bools.{bool_cases, cond_false, cond_true, same_or_not}
use Rattle.theory.specs.Graphs.{Attained, KeepsEdge, Leasts, NonPositive, Relative, Schedule, Shape, Timely}
use Rattle.theory.proofs.Usables.{dec_late_into, forward_usable, forwards_usable, usable_sub}
use Rattle.theory.proofs.Walks.{after_edge, after_mono, after_walk, counted_forward, forward_losses, join, member_counted, member_forward, schedule_mono, span_bound, span_join, walk_edge, walk_mono, walk_to}

-- Along an edge an offset grows by at least the gain less the loss: the edge makes a walk longer.
pub offset_edge : {E : Graph} {a o o' : ℕ} (e : Edge) → E e → Offset no_leasts E a e.from o → Offset no_leasts E a e.to o' → o + e.gain ≤ o' + e.loss
offset_edge e m O O' = omega (arith, O'.bound _ _ (span_join O.span (walk_edge e m)), O.attained)

-- An offset is no less than the least of its anchor: the chain that makes the anchor a member gains it with its first edge.
pub chain_offset : (least : ℕ → ℕ) {n : ℕ} {E : Graph} {a v o : ℕ} → Shape n E → Leasts least E → After (Forward E) a v → Offset no_leasts (UsableFrom E a) a v o → least a ≤ o
chain_offset least {a = a} shape leasts c O =
    let w = c.walk in
    let first : least a ≤ w.edge.gain = subst (λ (x : ℕ). least x ≤ w.edge.gain) w.leaves (leasts w.edge w.mem.0 w.counts) in
    omega (
      arith,
      first,
      w.gains,
      w.losses,
      forward_losses shape w.rest,
      shape.forward_lossless w.edge w.mem.0 w.mem.1,
      O.bound _ _ (after (after_mono (λ e m. (forwards_usable shape a e m).0) w)),
    )

pub span_walk : {E : Graph} {a y p q : ℕ} → Span E a y p q → (k : ℕ) × Walk E a y k p q
span_walk (source {k = k} h w) = (k, w)
span_walk (after w) = (suc w.k, after_walk w)

module _ {n : ℕ} {E : Graph} {d S : ℕ → ℕ} {off : ℕ → ℕ → ℕ} (shape : Shape n E) (posed : WellPosed E) (never : NonPositive E) (rel : Relative n E d S off) where
  -- The anchor that attains the start of `from` is a member at `to`, and may use the edge.
  keeps_carried : (e : Edge) → E e → (a : ℕ) → InAnchorSet E a e.from → S e.from ≡ S a + d a + off a e.from → ¬ LateInto e a → InAnchorSet E a e.to → S e.from + e.gain ≤ S e.to + e.loss
  keeps_carried e m a i h u j =
      omega (
        arith,
        h,
        rel.above a e.to (shape.to_below e m) j,
        offset_edge e (m, u) (rel.offsets a e.from (shape.from_below e m) i) (rel.offsets a e.to (shape.to_below e m) j),
      )

  -- It is `to` itself, whose end the return counts from: the offset's walk and the return close a walk.
  keeps_finish : (e : Edge) → E e → (a : ℕ) → InAnchorSet E a e.from → S e.from ≡ S a + d a + off a e.from → LateInto e a → S e.from + e.gain ≤ S e.to + e.loss + cond e.late (d e.to) 0
  keeps_finish e m a i h u =
      let O = rel.offsets a e.from (shape.from_below e m) i in
      let w = join (walk_mono (usable_sub E a) (span_walk O.span).1) (walk_to (walk_edge e m) u.1 refl refl refl) in
      omega (arith, h, O.attained, never.closed w, cond_true (d e.to) 0 u.0, ap d u.1, ap S u.1)

  keeps_uncounted : (e : Edge) → E e → S e.from + e.gain ≤ S e.to + e.loss + cond e.late (d e.to) 0
  keeps_uncounted e m = let A = rel.attained e.from (shape.from_below e m) in by A (bool_cases e.back) (dec_late_into e A.anchor)
    where
      by : (A : Attained E d S off e.from) → (e.back ≡ true) ⊎ (e.back ≡ false) → Dec (LateInto e A.anchor) → S e.from + e.gain ≤ S e.to + e.loss + cond e.late (d e.to) 0
      by A b (yes i) = keeps_finish e m A.anchor A.inside A.equals i
      by A (inr b) (no u) = omega (arith, keeps_carried e m A.anchor A.inside A.equals u (member_forward e m b A.inside))
      by A (inl b) (no u) = go (posed A.anchor e m b A.inside)
        where
          go : InAnchorSet E A.anchor e.to ⊎ LateInto e A.anchor → S e.from + e.gain ≤ S e.to + e.loss + cond e.late (d e.to) 0
          go (inl j) = omega (arith, keeps_carried e m A.anchor A.inside A.equals u j)
          go (inr j) = absurd (u j)

  keeps_counted : (e : Edge) → E e → e.counted ≡ true → e.from ≢ 0 → S e.from + e.gain + d e.from ≤ S e.to + e.loss
  keeps_counted e m c h =
      let i : InAnchorSet E e.from e.to = member_counted shape e m c in
      omega (
        arith,
        rel.above e.from e.to (shape.to_below e m) i,
        (rel.offsets e.from e.to (shape.to_below e m) i).bound e.gain e.loss (after (after_edge e (m, forward_usable shape e.from e m (counted_forward shape e m c)) c h)),
      )

  -- By the kind of the edge. An edge that is not counted: the anchor that attains its start is a member at its end too, and its offset grows by at least the gain less the loss; or it is the end itself,
  -- whose delay the late return has on the right. A counted edge: its start is itself an anchor of its end.
  pub relative_keeps : Schedule E d S
  relative_keeps = record { starts = rel.starts; keeps = λ e m. by_count e m (bool_cases e.counted) }
    where
      at_source : (e : Edge) → E e → e.counted ≡ true → (e.from ≡ 0) ⊎ (e.from ≢ 0) → KeepsEdge d S e
      at_source e m c (inl h) = omega (arith, keeps_uncounted e m, cond_true (d e.from) 0 c, ap d h, rel.no_wait)
      at_source e m c (inr h) = omega (arith, keeps_counted e m c h, cond_true (d e.from) 0 c)

      by_count : (e : Edge) → E e → (e.counted ≡ true) ⊎ (e.counted ≡ false) → KeepsEdge d S e
      by_count e m (inl c) = at_source e m c (same_or_not e.from 0)
      by_count e m (inr c) = omega (arith, keeps_uncounted e m, cond_false (d e.from) 0 c)

-- A member's term is at most any schedule's time, once the member itself starts no later there.
pub offset_bound : {E : Graph} {d t : ℕ → ℕ} {a v o : ℕ} → Timely E → d 0 ≡ 0 → Schedule E d t → Offset no_leasts (UsableFrom E a) a v o → t a + d a + o ≤ t v
offset_bound {E} {a = a} timely d0 s O = omega (arith, span_bound {E = UsableFrom E a} (λ e m. timely e m.0) (schedule_mono (usable_sub E a) s) d0 O.span, O.attained)

module _ {n : ℕ} {E : Graph} {d S t : ℕ → ℕ} {off : ℕ → ℕ → ℕ} (shape : Shape n E) (timely : Timely E) (rel : Relative n E d S off) (s : Schedule E d t) where
  least_from : (v : ℕ) → v < n → (a : ℕ) → InAnchorSet E a v → S v ≡ S a + d a + off a v → ((w : ℕ) → w < n → After (Forward E) w v → S w ≤ t w) → S v ≤ t v
  least_from v b a (is_source h) e ih =
      omega (arith, e, ap S h, rel.starts, offset_bound timely rel.no_wait s (rel.offsets a v b (is_source h)))
  least_from v b a (chain c) e ih =
      omega (
        arith,
        e,
        offset_bound timely rel.no_wait s (rel.offsets a v b (chain c)),
        ih a (rw c.walk.leaves at (shape.from_below c.walk.edge c.walk.mem.0)) c,
      )

  -- The step of the induction: S is no later at v where it is no later at the anchors before v.
  pub least_step : (v : ℕ) → v < n → ((w : ℕ) → w < n → After (Forward E) w v → S w ≤ t w) → S v ≤ t v
  least_step v b ih =
      let A = rel.attained v b in
      least_from v b A.anchor A.inside A.equals ih
