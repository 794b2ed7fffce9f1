-- Serialization edges make a graph well-posed; and where no return is late, every well-posed extension of the graph keeps them already.
use mathlib.Core.Path.{◌∙◌, ◌≡◌, refl, subst, sym}
use mathlib.Core.Bool.{false, true}
use mathlib.Core.Logic.{◌≢◌, ◌⊎◌, inl, inr}
use Prim.Native.Nat.{◌+◌, ◌<◌, ◌≤◌, suc, ℕ}
use native.Mathlib.Omega.{arith}
use Rattle.definitions.specs.Anchors.{InAnchorSet, WellPosed, chain, is_source}
use Rattle.definitions.specs.Links.{After, AfterWalk, Edge, Forward, Graph, Joined, LateInto, UsableFrom, Walk, ◌⊑◌, step, stop}
use Rattle.definitions.specs.Waits.{Wait, wait_edge, wait_pair}
use Rattle.laws.proofs.Bools.{bool_cases, both_ways, cond_true}
use Rattle.theory.specs.Graphs.{Acyclic, Carries, Consistent, FirstGains, ForwardAcyclic, Gains, KeepsEdge, Leasts, NonPositive, Rooted, Schedule, Serializable, Shape, Timely, WaitEdge, Waited, Well}
use Rattle.theory.proofs.Usables.{carries_usable, dec_late_into, forward_usable, timely_usable, usable_member, usable_shape, usable_sub}
use Rattle.theory.proofs.Walks.{after_bound, after_edge, after_from, after_join, after_joined, after_mono, after_start_below, after_to, after_trans, after_walk, chain_after, counted_forward, forward_losses, join, joined_mono, member_after, member_mono, member_to, schedule_mono, some_after, walk_edge, walk_from, walk_mono, walk_none, walk_to}

-- What holds of the edges of E and of the serialization edges holds of those of E'.
pub waited_each : {least : ℕ → ℕ} {E E' : Graph} → Waited least E E' → (P : Edge → Type 0) → ((e : Edge) → E e → P e) → ((e : Edge) → WaitEdge least E e → P e) → (e : Edge) → E' e → P e
waited_each {least} {E} W P sent added e m = go (W.only e m)
  where
    go : E e ⊎ WaitEdge least E e → P e
    go (inl h) = sent e h
    go (inr h) = added e h

-- A wait a → i stands for a walk of E from the end of a: to the return, and over it.
pub wait_after : {E : Graph} {a i : ℕ} → Wait E a i → After (UsableFrom E a) a i
wait_after w = some_after (after_to w.enters (after_join w.reaches.walk (walk_edge w.edge w.mem)))

wait_walk : {E : Graph} {a i : ℕ} → Wait E a i → After E a i
wait_walk {E} {a} w = some_after (after_mono (usable_sub E a) (wait_after w).walk)

module _ {least : ℕ → ℕ} {E E' : Graph} (W : Waited least E E') where
  after_first : (e : Edge) → E' e → e.counted ≡ true → e.from ≢ 0 → After E e.from e.to
  after_first =
      waited_each W
      (λ e. e.counted ≡ true → e.from ≢ 0 → After E e.from e.to)
      (λ e h c z. some_after (after_edge e h c z))
      (λ e h c z. wait_walk h.wait)

  joined_edge : (e : Edge) → E' e → Joined E e.from e.to
  joined_edge =
      waited_each W
      (λ e. Joined E e.from e.to)
      (λ e h. record { k = _; p = _; q = _; walk = walk_edge e h })
      (λ e h. after_joined (wait_walk h.wait))

  pub walk_back : {x y k p q : ℕ} → Walk E' x y k p q → Joined E x y
  walk_back (stop e hk hp hq) = record { k = 0; p = 0; q = 0; walk = stop e refl refl refl }
  walk_back (step w e m f o hk hp hq) =
      record { k = _; p = _; q = _; walk = join (walk_back w).walk (walk_from (sym f) (walk_to (joined_edge e m).walk o refl refl refl)) }

  -- A walk of E' that begins with a counted edge has one of E between the same ends: each serialization edge stands for a walk of E.
  pub after_back : {a y p q : ℕ} → AfterWalk E' a y p q → After E a y
  after_back w =
      some_after (after_join (after_from (sym w.leaves) (after_first w.edge w.mem w.counts (λ z. w.not_source (sym w.leaves ∙ z))).walk) (walk_back w.rest).walk)

  -- A wait is a chain of E'.
  pub wait_chain : {a i : ℕ} → Wait E a i → After (Forward E') a i
  wait_chain {a} {i} w =
      some_after
      (after_edge
      {E = Forward E'}
      (wait_edge least (wait_pair a i))
      (W.adds (wait_edge least (wait_pair a i)) (record { counts = refl; forward = refl; gains = refl; lossless = refl; timely = refl; wait = w }), refl)
      refl
      w.reaches.walk.not_source)

  -- A walk of E', within any part H of it, is one of E, as long as no serialization edge of it could be closed into a circle. Induction on the walk.
  walk_within : {H : Graph} {x y k p q : ℕ} → H ⊑ E' → Walk H x y k p q → ((e : Edge) → WaitEdge least E e → H e → Joined H x e.from → Joined H e.to y → ⊥) → Walk (λ e. E e × H e) x y k p q
  walk_within i (stop e hk hp hq) never = stop e hk hp hq
  walk_within {H} {x} {y} {k} {p} {q} i (step {y = y₀} {k = k₀} {p = p₀} {q = q₀} w e m f o hk hp hq) never =
      go
      (W.only e (i e m))
      (walk_within i w (λ e' h m' into out.
      never e' h m' into (record { k = _; p = _; q = _; walk = join out.walk (walk_from (sym f) (walk_to (walk_edge e m) o refl refl refl)) })))
    where
      go : E e ⊎ WaitEdge least E e → Walk (λ e. E e × H e) x y₀ k₀ p₀ q₀ → Walk (λ e. E e × H e) x y k p q
      go (inl h) v = step v e (h, m) f o hk hp hq
      go (inr h) v =
          absurd (never e h m (record { k = _; p = _; q = _; walk = walk_to w (sym f) refl refl refl }) (record { k = _; p = _; q = _; walk = walk_to (walk_none e.to) o refl refl refl }))

  -- So a circle of forward edges of E' is one of E, where no step stands before itself: over a wait, its anchor would.
  pub waited_forward_acyclic : ForwardAcyclic E → Acyclic (Forward E') → ForwardAcyclic E'
  waited_forward_acyclic once acyclic x k p q w =
      once x k p q
      (walk_mono (λ e m. (m.0, m.1.1))
      (walk_within (λ e m. m.0) w (λ e h m into out.
      acyclic e.from (some_after (after_join (after_edge e m h.counts h.wait.reaches.walk.not_source) (join out.walk into.walk))))))

  -- Where no walk of E from the end of a step comes back to it, no closed walk of E' goes through a serialization edge.
  module _ (acyclic : Acyclic E) where
    waited_acyclic : Acyclic E'
    waited_acyclic a w = acyclic a (after_back w.walk)

    wait_off_cycles : (e : Edge) → WaitEdge least E e → {k p q : ℕ} → Walk E' e.to e.from k p q → ⊥
    wait_off_cycles e h w = waited_acyclic e.from (some_after (after_join (after_edge e (W.adds e h) h.counts h.wait.reaches.walk.not_source) w))

    closed_within : {x k p q : ℕ} → Walk E' x x k p q → Walk E x x k p q
    closed_within w = walk_mono (λ e m. m.0) (walk_within (λ e m. m) w (λ e h m into out. wait_off_cycles e h (join out.walk into.walk)))

    waited_nonpositive : NonPositive E → NonPositive E'
    waited_nonpositive never = record { closed = λ w. never.closed (closed_within w) }

-- A member of the anchor set of v that is not step 0 ends before v starts: a chain gains the least of its first step, loses nothing and is never late.
pub member_bound : (least : ℕ → ℕ) {n : ℕ} {F : Graph} {d t : ℕ → ℕ} {a v : ℕ} → Shape n F → Leasts least F → Schedule F d t → a ≢ 0 → InAnchorSet F a v → t a + least a + d a ≤ t v
member_bound least shape leasts s n (is_source h) = absurd (n h)
member_bound least {F = F} {a = a} shape leasts s n (chain c) =
    let first : least a ≤ c.walk.edge.gain = subst (λ (x : ℕ). least x ≤ c.walk.edge.gain) c.walk.leaves (leasts c.walk.edge c.walk.mem.0 c.walk.counts) in
    omega (
      arith,
      first,
      c.walk.gains,
      after_bound {E = Forward F} (λ e m. shape.forward_timely e m.0 m.1) (schedule_mono (λ e m. m.0) s) c.walk,
      forward_losses shape c.walk.rest,
      c.walk.losses,
      shape.forward_lossless c.walk.edge c.walk.mem.0 c.walk.mem.1,
    )

-- Where no return is late, every schedule of a well-posed graph F above E keeps the waits of E: a walk of E from the end of a stays where a is in the anchor set of F, so F has a chain from a wherever a
-- wait for a stands.
module _ {n : ℕ} {least : ℕ → ℕ} {E E' F : Graph} {d t : ℕ → ℕ} (W : Waited least E E') (above : E ⊑ F) (shape : Shape n F) (posed : WellPosed F) (timely : Timely F) (leasts : Leasts least F) (s : Schedule F d t) where
  carries : (a : ℕ) → Carries F a
  carries a e m b i = go (posed a e m b i)
    where
      go : InAnchorSet F a e.to ⊎ LateInto e a → InAnchorSet F a e.to
      go (inl j) = j
      go (inr j) = absurd (both_ways j.0 (timely e m))

  pub rival_waits : {a i : ℕ} → Wait E a i → t a + least a + d a ≤ t i
  rival_waits {a} w =
      member_bound
      least
      shape
      leasts
      s
      w.reaches.walk.not_source
      (member_to w.enters (carries a w.edge (above w.edge w.mem.0) w.returns (member_after shape (carries a) (after_mono (λ e m. above e m.0) w.reaches.walk))))

  pub rival_keeps : Schedule E' d t
  rival_keeps = record { starts = s.starts; keeps = waited_each W (KeepsEdge d t) (λ e m. s.keeps e (above e m)) waits_kept }
    where
      waits_kept : (e : Edge) → WaitEdge least E e → KeepsEdge d t e
      waits_kept e h = omega (arith, rival_waits h.wait, h.gains, h.lossless, cond_true (d e.from) 0 h.counts)

-- What E' takes over from E.
module _ {n : ℕ} {least : ℕ → ℕ} {E E' : Graph} (W : Waited least E E') (shape : Shape n E) where
  pub waited_shape : Shape n E'
  waited_shape = record {
    from_below = waited_each W (λ e. e.from < n) shape.from_below (λ e h. after_start_below (usable_shape shape e.from) h.wait.reaches);
    to_below = waited_each W (λ e. e.to < n) shape.to_below (λ e h. rw h.wait.enters at (shape.to_below h.wait.edge h.wait.mem.0));
    back_uncounted = waited_each W (λ e. e.back ≡ true → e.counted ≡ false) shape.back_uncounted (λ e h b. absurd (both_ways b h.forward));
    forward_lossless = waited_each W (λ e. e.back ≡ false → e.loss ≡ 0) shape.forward_lossless (λ e h b. h.lossless);
    forward_timely = waited_each W (λ e. e.back ≡ false → e.late ≡ false) shape.forward_timely (λ e h b. h.timely);
    late_not_source = waited_each W (λ e. e.late ≡ true → e.to ≢ 0) shape.late_not_source (λ e h b. absurd (both_ways b h.timely));
  }

  pub waited_timely : Timely E → Timely E'
  waited_timely timely = waited_each W (λ e. e.late ≡ false) timely (λ e h. h.timely)

-- Forward chains stay.
pub waited_rooted : {n : ℕ} {least : ℕ → ℕ} {E E' : Graph} → Waited least E E' → Rooted n E → Rooted n E'
waited_rooted W rooted v b = joined_mono (λ e m. (W.keeps_all e m.0, m.1)) (rooted v b)

-- Serialization edges gain the leasts of their anchors, as counted edges out of these do.
pub waited_leasts : {least : ℕ → ℕ} {E E' : Graph} → Waited least E E' → Leasts least E → Leasts least E'
waited_leasts {least} W L = waited_each W (λ e. e.counted ≡ true → least e.from ≤ e.gain) L (λ e h c. omega (arith, h.gains))

pub waited_gains : {least : ℕ → ℕ} {E E' : Graph} {g : ℕ} → Waited least E E' → Leasts least E → Gains E g → Gains E' g
waited_gains {least} {E} {g = g} W L G = waited_each W (λ e. e.gain ≤ g) G added
  where
    added : (e : Edge) → WaitEdge least E e → e.gain ≤ g
    added e h =
        let w = h.wait.reaches.walk in
        let first : least e.from ≤ w.edge.gain = subst (λ (x : ℕ). least x ≤ w.edge.gain) w.leaves (L w.edge w.mem.0 w.counts) in
        omega (arith, h.gains, first, G w.edge w.mem.0)

pub waited_first_gains : {least : ℕ → ℕ} {E E' : Graph} (g : ℕ) → Waited least E E' → FirstGains least E g → FirstGains least E' g
waited_first_gains {least} g W G = waited_each W (λ e. (e.from ≡ 0) ⊎ (e.counted ≡ true) → e.gain ≤ least e.from + g) G (λ e h i. omega (arith, h.gains))

-- In a well-posed graph what the end of b reaches, b stands before. So, where forward edges close no circle, no step waits for its own end.
module _ {n : ℕ} {E : Graph} (shape : Shape n E) (posed : WellPosed E) where
  pub reach_chain : {b v : ℕ} → After (UsableFrom E b) b v → After (Forward E) b v
  reach_chain {b} {v} w = go (member_after (usable_shape shape b) (carries_usable shape posed b) w.walk)
    where
      go : InAnchorSet (UsableFrom E b) b v → After (Forward E) b v
      go (is_source h) = absurd (w.walk.not_source h)
      go (chain c) = some_after (after_mono (λ e m. (m.0.0, m.1)) c.walk)

  pub posed_consistent : Acyclic (Forward E) → Consistent E
  posed_consistent acyclic a w = acyclic a (reach_chain w)

pub forward_acyclic : {E : Graph} → ForwardAcyclic E → Acyclic (Forward E)
forward_acyclic once a w = once a _ _ _ (after_walk w.walk)

-- A walk from the end of b that anchor a may not follow: it comes to a late return into a.
pub record Crossing (E : Graph) (a b : ℕ) : Type 0 where
  pub edge : Edge
  pub mem : UsableFrom E b edge
  pub into : LateInto edge a
  pub reaches : After (UsableFrom E b) b edge.from

module _ {n : ℕ} {E : Graph} (shape : Shape n E) where
  pub late_back : (e : Edge) → E e → e.late ≡ true → e.back ≡ true
  late_back e m l = go (bool_cases e.back)
    where
      go : (e.back ≡ true) ⊎ (e.back ≡ false) → e.back ≡ true
      go (inl b) = b
      go (inr b) = absurd (both_ways l (shape.forward_timely e m b))

  cross_walk : {b x y k p q : ℕ} (a : ℕ) → After (UsableFrom E b) b x → Walk (UsableFrom E b) x y k p q → Walk (UsableFrom E a) x y k p q ⊎ Crossing E a b
  cross_walk a r (stop e hk hp hq) = inl (stop e hk hp hq)
  cross_walk {b} {x} {y} {k} {p} {q} a r (step {y = y₀} {k = k₀} {p = p₀} {q = q₀} w e m f o hk hp hq) = go (cross_walk a r w) (dec_late_into e a)
    where
      go : Walk (UsableFrom E a) x y₀ k₀ p₀ q₀ ⊎ Crossing E a b → Dec (LateInto e a) → Walk (UsableFrom E a) x y k p q ⊎ Crossing E a b
      go (inr c) i = inr c
      go (inl v) (yes i) = inr (record { edge = e; mem = m; into = i; reaches = some_after (after_to (sym f) (after_join r.walk w)) })
      go (inl v) (no i) = inl (step v e (m.0, i) f o hk hp hq)

  -- A walk from the end of b is one that anchor a may take, or it crosses a.
  pub cross_after : {b y p q : ℕ} (a : ℕ) (w : AfterWalk (UsableFrom E b) b y p q) → Walk (UsableFrom E a) b y (suc w.k) p q ⊎ Crossing E a b
  cross_after {b} {y} {p} {q} a w =
      go
      (cross_walk a (some_after (after_from (sym w.leaves) (after_edge w.edge w.mem w.counts (λ z. w.not_source (sym w.leaves ∙ z))))) w.rest)
      (walk_from (sym w.leaves) (walk_edge w.edge (w.mem.0, forward_usable shape a w.edge w.mem.0 (counted_forward shape w.edge w.mem.0 w.counts))))
    where
      go : Walk (UsableFrom E a) w.edge.to y w.k w.g w.l ⊎ Crossing E a b → Walk (UsableFrom E a) b w.edge.to 1 w.edge.gain w.edge.loss → Walk (UsableFrom E a) b y (suc w.k) p q ⊎ Crossing E a b
      go (inr c) u = inr c
      go (inl v) u = inl (walk_to {k' = suc w.k} {p' = p} {q' = q} (join u v) refl (omega arith) w.gains w.losses)

-- E' is well-posed, where its forward edges close no circle. What the end of a precedes in E', it reaches in E: along forward edges of E, and over a wait for b by the walk that the wait stands for, which
-- cannot cross a, as b would stand before a then. So a is a member at a return's end as sent, or that end waits for a.
module _ {n : ℕ} {least : ℕ → ℕ} {E E' : Graph} (shape : Shape n E) (W : Waited least E E') (dec : (a i : ℕ) → Dec (InAnchorSet E a i)) where
  waited_member : (a : ℕ) (e : Edge) → UsableFrom E a e → e.back ≡ true → After (UsableFrom E a) a e.from → InAnchorSet E' a e.to
  waited_member a e m b r = go (dec a e.to)
    where
      go : Dec (InAnchorSet E a e.to) → InAnchorSet E' a e.to
      go (yes i) = member_mono W.keeps_all i
      go (no i) = chain (wait_chain W (record { edge = e; mem = m; returns = b; enters = refl; reaches = r; absent = i }))

  module _ (acyclic : Acyclic (Forward E')) where
    no_crossing : {a b : ℕ} → After (Forward E') a b → ¬ Crossing E a b
    no_crossing {a} {b} c x = go (member_to x.into.1 (waited_member b x.edge x.mem (late_back shape x.edge x.mem.0 x.into.0) x.reaches))
      where
        go : InAnchorSet E' b a → ⊥
        go (is_source h) = x.reaches.walk.not_source h
        go (chain w) = acyclic a (after_trans c w)

    reach_edge : {a : ℕ} (e : Edge) → Forward E' e → After (UsableFrom E a) a e.from → After (Forward E') a e.from → After (UsableFrom E a) a e.to
    reach_edge {a} e m r c = go (W.only e m.0)
      where
        over : {k p q : ℕ} → Walk (UsableFrom E a) e.from e.to k p q ⊎ Crossing E a e.from → After (UsableFrom E a) a e.to
        over (inl v) = some_after (after_join r.walk v)
        over (inr x) = absurd (no_crossing c x)

        go : E e ⊎ WaitEdge least E e → After (UsableFrom E a) a e.to
        go (inl h) = some_after (after_join r.walk (walk_edge e (h, forward_usable shape a e h m.1)))
        go (inr h) = over (cross_after shape a (wait_after h.wait).walk)

    reach_walk : {a x y k p q : ℕ} → After (UsableFrom E a) a x → After (Forward E') a x → Walk (Forward E') x y k p q → After (UsableFrom E a) a y
    reach_walk r c (stop e hk hp hq) = some_after (after_to e r.walk)
    reach_walk r c (step w e m f o hk hp hq) =
        some_after (after_to o (reach_edge e m (some_after (after_to (sym f) (reach_walk r c w).walk)) (some_after (after_to (sym f) (after_join c.walk w)))).walk)

    reach_first : (e : Edge) → Forward E' e → e.counted ≡ true → e.from ≢ 0 → After (UsableFrom E e.from) e.from e.to
    reach_first e m c z = go (W.only e m.0)
      where
        go : E e ⊎ WaitEdge least E e → After (UsableFrom E e.from) e.from e.to
        go (inl h) = some_after (after_edge e (h, forward_usable shape e.from e h m.1) c z)
        go (inr h) = wait_after h.wait

    pub chain_reach : {a y : ℕ} → After (Forward E') a y → After (UsableFrom E a) a y
    chain_reach {a} {y} c =
        let w = c.walk in
        let z : w.edge.from ≢ 0 = λ z. w.not_source (sym w.leaves ∙ z) in
        subst
        (λ (b : ℕ). After (UsableFrom E b) b y)
        w.leaves
        (reach_walk (reach_first w.edge w.mem w.counts z) (some_after (after_edge w.edge w.mem w.counts z)) w.rest)

    pub waited_well_posed : WellPosed E'
    waited_well_posed a e m b (is_source h) = inl (is_source h)
    waited_well_posed a e m b (chain c) = go (W.only e m) (dec_late_into e a)
      where
        go : E e ⊎ WaitEdge least E e → Dec (LateInto e a) → InAnchorSet E' a e.to ⊎ LateInto e a
        go (inr h) i = absurd (both_ways b h.forward)
        go (inl h) (yes i) = inr i
        go (inl h) (no i) = inl (waited_member a e (h, i) b (chain_reach c))

    -- No step waits for itself.
    pub wait_other : {a i : ℕ} → Wait E a i → a ≢ i
    wait_other {a} w e = acyclic a (subst (λ (x : ℕ). After (Forward E') a x) (sym e) (wait_chain W w))

-- A graph that is well-posed as sent has no wait.
pub posed_no_wait : {n : ℕ} {E : Graph} {a i : ℕ} → Shape n E → WellPosed E → ¬ Wait E a i
posed_no_wait {E = E} {a = a} {i = i} shape posed w =
    go (posed a w.edge w.mem.0 w.returns (usable_member shape a (member_after (usable_shape shape a) (carries_usable shape posed a) w.reaches.walk)))
  where
    go : InAnchorSet E a w.edge.to ⊎ LateInto w.edge a → ⊥
    go (inl j) = w.absent (member_to w.enters j)
    go (inr j) = w.mem.1 j

-- E' can be scheduled where E can and the waits can be put in.
pub waited_well : {n : ℕ} {least : ℕ → ℕ} {E E' : Graph} → ((a i : ℕ) → Dec (InAnchorSet E a i)) → Waited least E E' → Well n E → Serializable E' → Well n E'
waited_well dec W w serial =
    let shape = waited_shape W w.shape in
    let acyclic = forward_acyclic serial.acyclic in
    record { some = w.some; shape = shape; rooted = waited_rooted W w.rooted; consistent = posed_consistent shape (waited_well_posed w.shape W dec acyclic) acyclic; never = serial.never }

-- Where no return is late the waits can always be put in.
pub timely_serializable : {n : ℕ} {least : ℕ → ℕ} {E E' : Graph} → Waited least E E' → Timely E → Well n E → ForwardAcyclic E → Serializable E'
timely_serializable {E = E} W timely w once =
    let acyclic : Acyclic E = λ a u. w.consistent a (some_after (after_mono (timely_usable timely a) u.walk)) in
    record { acyclic = waited_forward_acyclic W once (λ a u. waited_acyclic W acyclic a (chain_after u)); never = waited_nonpositive W acyclic w.never }
