-- A rival that does not know the future keeps the waits, as it cannot tell that a step will not take long. So it leaves no circle and no closed walk above 0, and it starts nothing before us; and our
-- starts are such a rival.
use mathlib.Core.Path.{◌∙◌, ◌≡◌, ap, refl, subst, sym}
use mathlib.Core.Bool.{cond, false, true}
use mathlib.Core.Logic.{◌≢◌, ◌⊎◌, inl, inr}
use Prim.Native.Nat.{◌+◌, ◌<◌, ◌≤◌, suc, ℕ}
use native.Mathlib.Omega.{arith}
use native.Mathlib.Decide.{dec_le}
use lib.Dec.{eqb}
use borrow.Author.Tests.{eq-eqb, ne_eqb}
use Rattle.definitions.specs.Anchors.{InAnchorSet, WellPosed, chain, is_source}
use Rattle.definitions.specs.Links.{After, Edge, Forward, Graph, UsableFrom, Walk, step, stop}
use Rattle.definitions.specs.Plan.{Span, after, source}
use Rattle.laws.proofs.Bools.{bool_cases, both_ways, cond_false, cond_true, same_or_not}
use Rattle.theory.specs.Graphs.{Acyclic, ForwardAcyclic, KeepsEdge, Leasts, NonPositive, Relative, Schedule, Serializable, Shape, WaitEdge, Waited, sole_delay}
use Rattle.theory.specs.Strategies.{Assigned, Ended, Strategy, Unbounded}
use Rattle.theory.proofs.AnchorOrder.{anchor_induct}
use Rattle.theory.proofs.RelativeSchedules.{chain_offset, relative_keeps}
use Rattle.theory.proofs.Serialization.{member_bound, wait_after, waited_each, waited_forward_acyclic, waited_leasts, waited_shape}
use Rattle.theory.proofs.Slack.{after_slack, schedule_nonpositive, slack, slack_same}
use Rattle.theory.proofs.SoleDelays.{sole_delay_other, sole_delay_own}
use Rattle.theory.proofs.Usables.{carries_usable, member_usable, usable_member, usable_shape, usable_sub}
use Rattle.theory.proofs.Walks.{after_start_below, after_trans, chain_after, counted_forward, member_below, member_counted, member_edge, member_from, member_to, member_walk, schedule_mono}

-- Delays but for one step.
abbrev but : (ℕ → ℕ) → ℕ → ℕ → ℕ → ℕ
but d a x v = cond (eqb v a) x (d v)

but_at : (d : ℕ → ℕ) (a x : ℕ) → but d a x a ≡ x
but_at d a x = cond_true x (d a) (eq-eqb a a refl)

but_other : (d : ℕ → ℕ) (a x v : ℕ) → v ≢ a → but d a x v ≡ d v
but_other d a x v h = cond_false x (d v) (ne_eqb v a h)

but_assigned : {Open : ℕ → Type 0} {d : ℕ → ℕ} → Assigned Open d → (a x : ℕ) → Open a → Assigned Open (but d a x)
but_assigned {Open} {d} L a x o v h = go (same_or_not v a)
  where
    go : (v ≡ a) ⊎ (v ≢ a) → but d a x v ≡ 0
    go (inl e) = absurd (h (subst Open (sym e) o))
    go (inr e) = but_other d a x v e ∙ L v h

-- A step whose end something reaches is open; and the waits change nothing of that.
after_open : {Open : ℕ → Type 0} {E : Graph} {a y : ℕ} → Unbounded Open E → After (UsableFrom E a) a y → Open a
after_open {Open = Open} unbounded w =
    let W = w.walk in
    subst Open W.leaves (unbounded.counted_open W.edge W.mem.0 W.counts (λ z. W.not_source (sym W.leaves ∙ z)))

pub unbounded_waited : {least : ℕ → ℕ} {Open : ℕ → Type 0} {E E' : Graph} → Unbounded Open E → Waited least E E' → Unbounded Open E'
unbounded_waited {Open = Open} unbounded W = record {
  not_source = unbounded.not_source;
  counted_open = waited_each W (λ e. e.counted ≡ true → e.from ≢ 0 → Open e.from) unbounded.counted_open (λ e h c z. after_open unbounded (wait_after h.wait));
  late_open = waited_each W (λ e. e.late ≡ true → Open e.to) unbounded.late_open (λ e h l. absurd (both_ways l h.timely));
}

module _ {n : ℕ} {least : ℕ → ℕ} {Open : ℕ → Type 0} {E : Graph} {ρ : (ℕ → ℕ) → ℕ → ℕ} (shape : Shape n E) (unbounded : Unbounded Open E) (R : Strategy n least Open E ρ) where
  -- Were a to last M, it would not have ended at v's start, if it had not before; nothing that has ended tells the two apart, so v would start at the same tick. But M is more than the walk allows.
  outlasts : (d : ℕ → ℕ) → Assigned Open d → (a v : ℕ) → v < n → (w : After (UsableFrom E a) a v) → (M : ℕ) → M ≡ suc (ρ d v + w.q + slack d w.walk.rest) → ρ d a + least a + d a ≤ ρ d v ⊎ (ρ d v < ρ d a + least a + d a) → ρ d a + least a + d a ≤ ρ d v
  outlasts d L a v b w M big (inl h) = h
  outlasts d L a v b w M big (inr h) = absurd (omega (arith, same, bound, alike, but_at d a M))
    where
      L' : Assigned Open (but d a M)
      L' = but_assigned L a M (after_open unbounded w)

      agree : (u : ℕ) → Ended least ρ d u (ρ d v) ⊎ Ended least ρ (but d a M) u (ρ d v) → (u ≡ a) ⊎ (u ≢ a) → d u ≡ but d a M u
      agree u (inl e) (inl s) = absurd (omega (arith, e, h, ap (ρ d) s, ap least s, ap d s))
      agree u (inr e) (inl s) = absurd (omega (arith, e, ap (but d a M) s, but_at d a M))
      agree u e (inr s) = sym (but_other d a M u s)

      same : ρ (but d a M) v ≡ ρ d v
      same = R.blind d (but d a M) L L' (ρ d v) (λ u c e. agree u e (same_or_not u a)) v b refl

      bound : ρ (but d a M) a + but d a M a + w.p ≤ ρ (but d a M) v + w.q + slack (but d a M) w.walk.rest
      bound = after_slack (usable_shape shape a) (schedule_mono (usable_sub E a) (R.keeps (but d a M) L')) w.walk

      alike : slack d w.walk.rest ≡ slack (but d a M) w.walk.rest
      alike = slack_same {d = d} {d' = but d a M} (λ u h. sym (but_other d a M u h)) w.walk.rest

  -- So what the end of a reaches starts after that end.
  strategy_waits : (d : ℕ → ℕ) → Assigned Open d → (a v : ℕ) → v < n → After (UsableFrom E a) a v → ρ d a + least a + d a ≤ ρ d v
  strategy_waits d L a v b w = outlasts d L a v b w _ refl (go (dec_le (ρ d a + least a + d a) (ρ d v)))
    where
      go : Dec (ρ d a + least a + d a ≤ ρ d v) → ρ d a + least a + d a ≤ ρ d v ⊎ (ρ d v < ρ d a + least a + d a)
      go (yes h) = inl h
      go (no h) = inr (omega arith)

  -- It does not start c earlier, were c to take longer than nothing: until c has ended nothing tells.
  strategy_patient : (d : ℕ → ℕ) → Assigned Open d → (c : ℕ) → c < n → Open c → ρ (but d c 0) c ≤ ρ d c
  strategy_patient d L c b o = go (dec_le (ρ (but d c 0) c) (ρ d c))
    where
      agree : ¬ (ρ (but d c 0) c ≤ ρ d c) → (u : ℕ) → Ended least ρ d u (ρ d c) ⊎ Ended least ρ (but d c 0) u (ρ d c) → (u ≡ c) ⊎ (u ≢ c) → d u ≡ but d c 0 u
      agree h u (inl e) (inl s) = omega (arith, e, ap (ρ d) s, ap (but d c 0) s, but_at d c 0)
      agree h u (inr e) (inl s) = absurd (omega (arith, e, h, ap (ρ (but d c 0)) s))
      agree h u e (inr s) = sym (but_other d c 0 u s)

      go : Dec (ρ (but d c 0) c ≤ ρ d c) → ρ (but d c 0) c ≤ ρ d c
      go (yes h) = h
      go (no h) = omega (arith, R.blind d (but d c 0) L (but_assigned L c 0 o) (ρ d c) (λ u k e. agree h u e (same_or_not u c)) c b refl)

  module _ {E' : Graph} (W : Waited least E E') where
    strategy_keeps_waits : (d : ℕ → ℕ) → Assigned Open d → Schedule E' d (ρ d)
    strategy_keeps_waits d L = record { starts = (R.keeps d L).starts; keeps = λ e m. go e m (W.only e m) }
      where
        go : (e : Edge) → E' e → E e ⊎ WaitEdge least E e → KeepsEdge d (ρ d) e
        go e m (inl h) = (R.keeps d L).keeps e h
        go e m (inr h) =
            omega (
              arith,
              strategy_waits d L e.from e.to ((waited_shape W shape).to_below e m) (wait_after h.wait),
              h.gains,
              h.lossless,
              cond_true (d e.from) 0 h.counts,
            )

    -- 28 has no such rival. With delays of 0 its start times show that no closed walk is above 0; and around a circle over a wait, were its step to last 1, they would rise.
    strategy_acyclic : Leasts least E → Acyclic (Forward E')
    strategy_acyclic leasts a w =
        let u = w.walk in
        let o : Open a = subst Open u.leaves ((unbounded_waited unbounded W).counted_open u.edge u.mem.0 u.counts (λ z. u.not_source (sym u.leaves ∙ z))) in
        omega (
          arith,
          member_bound least (waited_shape W shape) (waited_leasts W leasts) (strategy_keeps_waits (sole_delay 1 a) (assigned o)) u.not_source (chain w),
          sole_delay_own 1 a u.not_source,
        )
      where
        assigned : Open a → Assigned Open (sole_delay 1 a)
        assigned o v h = sole_delay_other 1 a v (λ e. h (subst Open (sym e) o))

    pub strategy_serializable : Leasts least E → ForwardAcyclic E → Serializable E'
    strategy_serializable leasts none =
        record { acyclic = waited_forward_acyclic W none (strategy_acyclic leasts); never = schedule_nonpositive (strategy_keeps_waits (λ v. 0) (λ v h. refl)) }

-- S is the relative schedule under all delays.
abbrev pub RelativeAll : ℕ → Graph → ((ℕ → ℕ) → ℕ → ℕ) → (ℕ → ℕ → ℕ) → Type 0
RelativeAll n E S off = (d : ℕ → ℕ) → d 0 ≡ 0 → Relative n E d (S d) off

-- Start times turn on the delays of the steps before v alone: longer delays there start v no earlier.
module _ {n : ℕ} {E : Graph} {S : (ℕ → ℕ) → ℕ → ℕ} {off : ℕ → ℕ → ℕ} (shape : Shape n E) (acyclic : Acyclic (Forward E)) (rel : RelativeAll n E S off) where
  module _ (d d' : ℕ → ℕ) (z : d 0 ≡ 0) (z' : d' 0 ≡ 0) where
    no_later : (v : ℕ) → v < n → ((a : ℕ) → a < n → After (Forward E) a v → S d a ≤ S d' a) → ((a : ℕ) → After (Forward E) a v → d a ≤ d' a) → S d v ≤ S d' v
    no_later v b ih h = let A = (rel d z).attained v b in go A.anchor A.inside A.equals
      where
        go : (a : ℕ) → InAnchorSet E a v → S d v ≡ S d a + d a + off a v → S d v ≤ S d' v
        go a (is_source e) q = omega (arith, q, ap (S d) e, ap d e, z, (rel d z).starts, (rel d' z').above a v b (is_source e))
        go a (chain w) q = omega (arith, q, h a w, ih a (after_start_below shape (chain_after w)) w, (rel d' z').above a v b (chain w))

    starts_monotone : (v : ℕ) → v < n → ((a : ℕ) → After (Forward E) a v → d a ≤ d' a) → S d v ≤ S d' v
    starts_monotone = anchor_induct n (Forward E) acyclic (λ v. ((a : ℕ) → After (Forward E) a v → d a ≤ d' a) → S d v ≤ S d' v) each
      where
        each : (v : ℕ) → v < n → ((a : ℕ) → a < n → After (Forward E) a v → ((b : ℕ) → After (Forward E) b a → d b ≤ d' b) → S d a ≤ S d' a) → ((a : ℕ) → After (Forward E) a v → d a ≤ d' a) → S d v ≤ S d' v
        each v b ih h = no_later v b (λ a c w. ih a c w (λ x u. h x (after_trans u w))) h

  pub starts_same : (d d' : ℕ → ℕ) → d 0 ≡ 0 → d' 0 ≡ 0 → (v : ℕ) → v < n → ((a : ℕ) → After (Forward E) a v → d a ≡ d' a) → S d v ≡ S d' v
  starts_same d d' z z' v b h =
      omega (arith, starts_monotone d d' z z' v b (λ a w. omega (arith, h a w)), starts_monotone d' d z' z v b (λ a w. omega (arith, h a w)))

  module _ {Open : ℕ → Type 0} (unbounded : Unbounded Open E) (posed : WellPosed E) where
    abbrev zero_at : {d : ℕ → ℕ} → Assigned Open d → d 0 ≡ 0
    zero_at L = L 0 unbounded.not_source

    -- Our starts are such a rival: what they turn on has finished by then, as an offset is no less than the least of its anchor.
    pub ours_strategy : {least : ℕ → ℕ} → Leasts least E → NonPositive E → Strategy n least Open E S
    ours_strategy {least} leasts never = record { keeps = λ d L. relative_keeps shape posed never (rel d (zero_at L)); blind = blind }
      where
        blind : (d d' : ℕ → ℕ) → Assigned Open d → Assigned Open d' → (t : ℕ) → ((v : ℕ) → v < n → Ended least S d v t ⊎ Ended least S d' v t → d v ≡ d' v) → (v : ℕ) → v < n → S d v ≡ t → S d' v ≡ t
        blind d d' L L' t h v b q =
            let before : (a : ℕ) → After (Forward E) a v → d a ≡ d' a = λ a w. h a (after_start_below shape (chain_after w)) (inl (omega (arith, q, (rel d (zero_at L)).above a v b (chain w), chain_offset least shape leasts w ((rel d (zero_at L)).offsets a v b (chain w))))) in
            sym (starts_same d d' (zero_at L) (zero_at L') v b before) ∙ q

    -- And none that keeps the waits starts v before us. Induction along anchors and then along the walk of the offset, for all delays at once: over a late return into c, take c to last nothing. That moves
    -- neither the anchor, which c does not stand before, nor c's own start to a later tick.
    module _ {ρ : (ℕ → ℕ) → ℕ → ℕ} (kept : (d : ℕ → ℕ) → Assigned Open d → Schedule E d (ρ d)) (patient : (d : ℕ → ℕ) → Assigned Open d → (c : ℕ) → c < n → Open c → ρ (but d c 0) c ≤ ρ d c) where
      steady : (a c : ℕ) → a < n → InAnchorSet E a c → c ≢ a → (d : ℕ → ℕ) → Assigned Open d → Open c → S (but d c 0) a ≡ S d a
      steady a c b (is_source h) z d L o =
          omega (arith, ap (S d) h, ap (S (but d c 0)) h, (rel d (zero_at L)).starts, (rel (but d c 0) (zero_at (but_assigned L c 0 o))).starts)
      steady a c b (chain w) z d L o =
          starts_same (but d c 0) d (zero_at (but_assigned L c 0 o)) (zero_at L) a b (λ x u. but_other d c 0 x (λ e. acyclic a (after_trans w (subst (λ (y : ℕ). After (Forward E) y a) e u))))

      bound_walk : {a x y k p q : ℕ} (g l : ℕ) → a < n → InAnchorSet E a x → ((d : ℕ → ℕ) → Assigned Open d → S d a + d a + g ≤ ρ d x + l) → Walk (UsableFrom E a) x y k p q → (d : ℕ → ℕ) → Assigned Open d → S d a + d a + (g + p) ≤ ρ d y + (l + q)
      bound_walk g l b i B (stop e hk hp hq) d L = omega (arith, B d L, ap (ρ d) e)
      bound_walk {a} {x} {y} {k} {p} {q} g l b i B (step {y = y₀} {p = p₀} {q = q₀} w e m f o hk hp hq) d L = go (bool_cases e.late) (bound_walk g l b i B w)
        where
          apart : e.late ≡ true → e.to ≢ a
          apart t z = m.1 (t, z)

          inside : InAnchorSet E a e.to
          inside =
              usable_member
              shape
              a
              (member_edge (carries_usable shape posed a) e m (member_to (sym f) (member_walk (carries_usable shape posed a) (member_usable shape a i) w)))

          go : (e.late ≡ true) ⊎ (e.late ≡ false) → ((d : ℕ → ℕ) → Assigned Open d → S d a + d a + (g + p₀) ≤ ρ d y₀ + (l + q₀)) → S d a + d a + (g + p) ≤ ρ d y + (l + q)
          go (inr t) ih = omega (arith, ih d L, (kept d L).keeps e m.0, cond_false (d e.to) 0 t, ap (ρ d) f, ap (ρ d) o)
          go (inl t) ih =
              let O : Open e.to = unbounded.late_open e m.0 t in
              let L* : Assigned Open (but d e.to 0) = but_assigned L e.to 0 O in
              omega (
                arith,
                ih (but d e.to 0) L*,
                (kept (but d e.to 0) L*).keeps e m.0,
                cond_true (but d e.to 0 e.to) 0 t,
                but_at d e.to 0,
                but_other d e.to 0 a (λ z. apart t (sym z)),
                steady a e.to b inside (apart t) d L O,
                patient d L e.to (shape.to_below e m.0) O,
                ap (ρ (but d e.to 0)) f,
                ap (ρ d) o,
              )

      bound_span : {a v p q : ℕ} → a < n → ((d : ℕ → ℕ) → Assigned Open d → S d a ≤ ρ d a) → Span (UsableFrom E a) a v p q → (d : ℕ → ℕ) → Assigned Open d → S d a + d a + p ≤ ρ d v + q
      bound_span {a} b ih (source h w) d L =
          omega (arith, bound_walk 0 0 b (is_source h) (λ d' L'. omega (arith, ih d' L', ap d' h, zero_at L')) w d L)
      bound_span {a} b ih (after w) d L =
          let i : InAnchorSet E a w.edge.to = member_from (sym w.leaves) (member_counted shape w.edge w.mem.0 w.counts) in
          omega (arith, bound_walk w.edge.gain w.edge.loss b i (λ d' L'. first d' L') w.rest d L, w.gains, w.losses)
        where
          first : (d' : ℕ → ℕ) → Assigned Open d' → S d' a + d' a + w.edge.gain ≤ ρ d' w.edge.to + w.edge.loss
          first d' L' =
              omega (
                arith,
                ih d' L',
                (kept d' L').keeps w.edge w.mem.0,
                cond_true (d' w.edge.from) 0 w.counts,
                cond_false (d' w.edge.to) 0 (shape.forward_timely w.edge w.mem.0 (counted_forward shape w.edge w.mem.0 w.counts)),
                ap (ρ d') w.leaves,
                ap d' w.leaves,
              )

      earliest_by : (v : ℕ) → v < n → (d : ℕ → ℕ) → Assigned Open d → S d v ≤ ρ d v
      earliest_by = anchor_induct n (Forward E) acyclic (λ v. (d : ℕ → ℕ) → Assigned Open d → S d v ≤ ρ d v) each
        where
          each : (v : ℕ) → v < n → ((a : ℕ) → a < n → After (Forward E) a v → (d : ℕ → ℕ) → Assigned Open d → S d a ≤ ρ d a) → (d : ℕ → ℕ) → Assigned Open d → S d v ≤ ρ d v
          each v b ih d L =
              let A = (rel d (zero_at L)).attained v b in
              let O = (rel d (zero_at L)).offsets A.anchor v b A.inside in
              omega (arith, A.equals, O.attained, bound_span (member_below shape b A.inside) (before A.anchor A.inside) O.span d L)
            where
              before : (a : ℕ) → InAnchorSet E a v → (d' : ℕ → ℕ) → Assigned Open d' → S d' a ≤ ρ d' a
              before a (is_source h) d' L' = omega (arith, ap (S d') h, (rel d' (zero_at L')).starts)
              before a (chain w) d' L' = ih a (after_start_below shape (chain_after w)) w d' L'

-- S starts nothing after ρ, whatever the delays.
abbrev pub Earliest : ℕ → (ℕ → Type 0) → ((ℕ → ℕ) → ℕ → ℕ) → ((ℕ → ℕ) → ℕ → ℕ) → Type 0
Earliest n Open S ρ = (v : ℕ) → v < n → (d : ℕ → ℕ) → Assigned Open d → S d v ≤ ρ d v

-- All together: a rival on the graph as sent, our starts on the graph with its waits.
pub strategy_earliest : {n : ℕ} {least : ℕ → ℕ} {Open : ℕ → Type 0} {E E' : Graph} {S ρ : (ℕ → ℕ) → ℕ → ℕ} {off : ℕ → ℕ → ℕ} → Shape n E → Unbounded Open E → Waited least E E' → Acyclic (Forward E') → WellPosed E' → RelativeAll n E' S off → Strategy n least Open E ρ → Earliest n Open S ρ
strategy_earliest shape unbounded W acyclic posed rel R =
    earliest_by (waited_shape W shape) acyclic rel (unbounded_waited unbounded W) posed (strategy_keeps_waits shape unbounded R W) (strategy_patient shape unbounded R)
