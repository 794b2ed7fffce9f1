-- The rows that are drawn along an order of the steps are what the chains of forward edges say. Every forward edge has handed on, from the end of the rows' equation to its start; and nothing in a row is there without
-- a chain, by induction on the rank. So bit 0 of a row tells whether a chain comes from step 0; where one comes to every step, the rows are the anchor sets.
use mathlib.Core.Path.{◌≡◌, refl, sym, ap, ◌∙◌}
use mathlib.Core.Bool.{Bool, true, false, ◌&&◌, ◌||◌}
use mathlib.Core.Logic.{◌⊎◌, inl, inr, ◌≢◌}
use mathlib.Core.List.{List}
use Prim.Native.Nat.{ℕ, zero, suc, ◌≤◌, ◌<◌}
use native.Mathlib.Omega.{arith}
use native.Mathlib.Decide.{dec_lt}
use lib.Dec.{eqb, ltb}
use borrow.Author.Tests.{eq-eqb, eqb-true, lt-ltb, ltb-true}
use Rattle.definitions.specs.Anchors.{in_anchor_set}
use Rattle.definitions.specs.Basics.{any, any_below, test_bit}
use Rattle.definitions.specs.Links.{After, Edge, Forward, Graph, Joined, Walk, forwards, members, step, stop}
use Rattle.definitions.specs.Rounds.{after_reaches, reaches}
use Rattle.laws.proofs.Bools.{and_join, and_split, both_ways, not_passing, or_left, or_right, or_split, same_or_not, same_test}
use Rattle.laws.proofs.Tests.{any_below_by, any_below_has, any_by, any_has}
use Rattle.order_steps.specs.Orders.{Ordered, Predecessors, counts_into}
use Rattle.order_steps.proofs.Circles.{bit_edge, edge_bit, ordered_acyclic}
use Rattle.order_reach.specs.Pushes.{Settled, Within, column}
use Rattle.order_reach.proofs.Searching.{leads, settled_walk}
use Rattle.data_relations.specs.Rows.{row_bit}
use Rattle.data_relations.specs.Sets.{AnchorSets}
use Rattle.theory.specs.Graphs.{Entered, Shape}
use Rattle.theory.specs.Sweeps.{Leads}
use Rattle.theory.proofs.Entering.{entered_rooted}
use Rattle.theory.proofs.Reachability.{after_reaches_iff, forwards_mem, forwards_shape, joined_reaches, mem_forwards, reaches_joined}
use Rattle.theory.proofs.Walks.{after_edge, after_from, after_join, after_mono, joined_mono, some_after, walk_edge, walk_none}
use Rattle.order_forward.specs.Sorting.{Drawn, Adjoined}

module _ {n : ℕ} {g : List Edge} {before order own rows : List ℕ} (few : n ≤ 64) (some : 1 ≤ n) (shape : Shape n (members g)) (direct : Predecessors g before) (O : Ordered n before order) (E : Adjoined g own) (D : Drawn n before own rows) where
  abbrev Fore : Graph
  Fore = Forward (members g)

  -- What a row of n has: its own, and what those right before it have.
  has_own : (v a : ℕ) → v < n → row_bit own v a ≡ true → row_bit rows v a ≡ true
  has_own v a b h = D.bits v a b ∙ or_left (any_below (λ u. row_bit before v u && row_bit rows u a) 64) h

  root : column rows 0 0 ≡ true
  root = has_own 0 0 some (E.bits 0 0 ∙ or_right (any (counts_into 0 0) g) refl)

  settled : (a : ℕ) → Settled a Fore (column rows a)
  settled a e m (inl h) =
      D.bits e.to a (shape.to_below e m.0)
      ∙ or_right (row_bit own e.to a) (any_below_by (λ u. row_bit before e.to u && row_bit rows u a) 64 (omega (arith, shape.from_below e m.0)) (and_join (edge_bit direct e m) h))
  settled a e m (inr l) = has_own e.to a (shape.to_below e m.0) (E.bits e.to a ∙ or_left (eqb e.to 0 && eqb a 0) (any_by (counts_into e.to a) g m.0 counted))
    where
      counted : counts_into e.to a e ≡ true
      counted = and_join (eq-eqb e.to e.to refl) (and_join l.counts (eq-eqb a e.from (sym l.leaves)))

  -- Nothing goes beyond a column in which every forward edge has handed on, and which has step 0 where it is that of step 0.
  module _ (a : ℕ) (t : ℕ → Bool) (st : Settled a Fore t) (source : a ≡ 0 → t 0 ≡ true) where
    from_edge : (v : ℕ) → any (counts_into v a) g ≡ true → t v ≡ true
    from_edge v h = ap t into ∙ st e (r.1, ahead) (by (same_or_not a 0))
      where
        r : (x : Edge) × members g x × (counts_into v a x ≡ true)
        r = any_has (counts_into v a) g h

        e : Edge
        e = r.0

        into : v ≡ e.to
        into = eqb-true v e.to (and_split (eqb v e.to) (e.counted && eqb a e.from) r.2).0

        parts : (e.counted ≡ true) × (eqb a e.from ≡ true)
        parts = and_split e.counted (eqb a e.from) (and_split (eqb v e.to) (e.counted && eqb a e.from) r.2).1

        from : a ≡ e.from
        from = eqb-true a e.from parts.1

        ahead : e.back ≡ false
        ahead = not_passing e.back (λ b. both_ways parts.0 (shape.back_uncounted e r.1 b))

        by : (a ≡ 0) ⊎ (a ≢ 0) → (t e.from ≡ true) ⊎ Leads a e
        by (inl z) = inl (ap t (sym from ∙ z) ∙ source z)
        by (inr d) = inr (record { not_source = d; leaves = sym from; counts = parts.0 })

    own_sound : (v : ℕ) → row_bit own v a ≡ true → t v ≡ true
    own_sound v h = by (or_split (any (counts_into v a) g) (eqb v 0 && eqb a 0) (sym (E.bits v a) ∙ h))
      where
        by : (any (counts_into v a) g ≡ true) ⊎ ((eqb v 0 && eqb a 0) ≡ true) → t v ≡ true
        by (inl q) = from_edge v q
        by (inr q) = let s = and_split (eqb v 0) (eqb a 0) q in ap t (eqb-true v 0 s.0) ∙ source (eqb-true a 0 s.1)

    below_rank : (fuel v : ℕ) → v < n → O.rank v < fuel → row_bit rows v a ≡ true → t v ≡ true
    below_rank zero v b r h = absurd (omega arith)
    below_rank (suc fuel) v b r h = by (or_split (row_bit own v a) (any_below (λ u. row_bit before v u && row_bit rows u a) 64) (sym (D.bits v a b) ∙ h)) (below_rank fuel)
      where
        by : (row_bit own v a ≡ true) ⊎ (any_below (λ u. row_bit before v u && row_bit rows u a) 64 ≡ true) → ((w : ℕ) → w < n → O.rank w < fuel → row_bit rows w a ≡ true → t w ≡ true) → t v ≡ true
        by (inl q) lower = own_sound v q
        by (inr q) lower =
            let k = any_below_has (λ u. row_bit before v u && row_bit rows u a) 64 q in
            let s = and_split (row_bit before v k.0) (row_bit rows k.0 a) k.2 in
            let d = bit_edge direct v k.0 s.0 in
            let c : k.0 < n = omega (arith, shape.from_below d.edge d.mem.0, d.leaves) in
            sym (ap t d.ends) ∙ st d.edge d.mem (inl (ap t d.leaves ∙ lower k.0 c (omega (arith, O.rises k.0 v c b s.0)) s.1))

    sound : Within (column rows a) t
    sound v h = by (dec_lt v n)
      where
        by : Dec (v < n) → t v ≡ true
        by (yes b) = below_rank (suc (O.rank v)) v b (omega arith) h
        by (no b) = own_sound v (sym (ap (λ (x : ℕ). test_bit x a) (D.past v (omega arith))) ∙ h)

  sf : Shape n (members (forwards g))
  sf = forwards_shape shape

  -- Bit 0 of a row: a chain comes from step 0.
  from_source : {v k p q : ℕ} → Walk (Fore) 0 v k p q → column rows 0 v ≡ true
  from_source (stop e hk hp hq) = sym (ap (column rows 0) e) ∙ root
  from_source (step w e m f o hk hp hq) = sym (ap (column rows 0) o) ∙ settled 0 e m (inl (ap (column rows 0) f ∙ from_source w))

  source_chain : (v : ℕ) → reaches n (forwards g) 0 v ≡ true → Joined (Fore) 0 v
  source_chain v h = joined_mono (mem_forwards g) (reaches_joined sf some v h)

  source_test : (v : ℕ) → Joined (Fore) 0 v → reaches n (forwards g) 0 v ≡ true
  source_test v J = joined_reaches sf some (joined_mono (forwards_mem g) J)

  source_settled : Settled 0 (Fore) (reaches n (forwards g) 0)
  source_settled e m (inl h) =
      let J = source_chain e.from h in
      source_test e.to (record { k = _; p = _; q = _; walk = step J.walk e m refl refl refl refl refl })
  source_settled e m (inr l) = absurd (l.not_source refl)

  source_bit : (v : ℕ) → column rows 0 v ≡ reaches n (forwards g) 0 v
  source_bit v =
      same_test (column rows 0 v) (reaches n (forwards g) 0 v) (sound 0 (reaches n (forwards g) 0) source_settled (λ z. source_test 0 (record { k = 0; p = 0; q = 0; walk = walk_none 0 })) v) (λ h. from_source (source_chain v h).walk)

  -- Another bit: a chain comes that begins with a counted edge.
  after_chain : (a v : ℕ) → after_reaches n (forwards g) a v ≡ true → After (Fore) a v
  after_chain a v h = some_after (after_mono (mem_forwards g) ((after_reaches_iff sf a v).0 h).walk)

  after_test : (a v : ℕ) → After (Fore) a v → after_reaches n (forwards g) a v ≡ true
  after_test a v w = (after_reaches_iff sf a v).1 (some_after (after_mono (forwards_mem g) w.walk))

  after_settled : (a : ℕ) → Settled a (Fore) (after_reaches n (forwards g) a)
  after_settled a e m (inl h) = after_test a e.to (some_after (after_join (after_chain a e.from h).walk (walk_edge e m)))
  after_settled a e m (inr l) = after_test a e.to (some_after (after_from (sym l.leaves) (after_edge e m l.counts (λ z. l.not_source (sym l.leaves ∙ z)))))

  after_bit : (a v : ℕ) → a ≢ 0 → column rows a v ≡ after_reaches n (forwards g) a v
  after_bit a v z =
      same_test (column rows a v) (after_reaches n (forwards g) a v) (sound a (after_reaches n (forwards g) a) (after_settled a) (λ e. absurd (z e)) v) (λ h. let w = (after_chain a v h).walk in settled_walk (column rows a) (settled a) w.edge w.mem (leads w) w.rest)

  -- Chains end below n.
  ends_below : {x v k p q : ℕ} → x < n → Walk (Fore) x v k p q → v < n
  ends_below b (stop e hk hp hq) = omega arith
  ends_below b (step w e m f o hk hp hq) = omega (arith, shape.to_below e m.0)

  -- Where forward edges lead into every step other than 0 each has a chain from it: they close no circle, for the steps have an order.
  reached_each : Entered n (members g) → (v : ℕ) → v < n → reaches n (forwards g) 0 v ≡ true
  reached_each entered v b = source_test v (entered_rooted shape entered (ordered_acyclic direct shape O) v b)

  sets_by : Entered n (members g) → (a v : ℕ) → column rows a v ≡ (ltb v n && (ltb a n && in_anchor_set n g a v))
  unfolding in_anchor_set
  sets_by entered a v = same_test (column rows a v) (ltb v n && (ltb a n && (eqb a 0 || after_reaches n (forwards g) a v))) (λ k. found k (same_or_not a 0)) (λ k. test (and_split (ltb v n) (ltb a n && (eqb a 0 || after_reaches n (forwards g) a v)) k) (same_or_not a 0))
    where
      found : column rows a v ≡ true → (a ≡ 0) ⊎ (a ≢ 0) → (ltb v n && (ltb a n && (eqb a 0 || after_reaches n (forwards g) a v))) ≡ true
      found k (inl z) =
          let J = source_chain v (sym (source_bit v) ∙ sym (ap (λ (x : ℕ). column rows x v) z) ∙ k) in
          and_join (lt-ltb v n (ends_below some J.walk)) (and_join (lt-ltb a n (omega arith)) (or_left (after_reaches n (forwards g) a v) (eq-eqb a 0 z)))
      found k (inr z) =
          let t = sym (after_bit a v z) ∙ k in
          let w = after_chain a v t in
          let i = w.walk in
          and_join (lt-ltb v n (ends_below (shape.to_below i.edge i.mem.0) i.rest)) (and_join (lt-ltb a n (omega (arith, shape.from_below i.edge i.mem.0, i.leaves))) (or_right (eqb a 0) t))

      chained : a ≢ 0 → (eqb a 0 ≡ true) ⊎ (after_reaches n (forwards g) a v ≡ true) → column rows a v ≡ true
      chained z (inl e) = absurd (z (eqb-true a 0 e))
      chained z (inr t) = after_bit a v z ∙ t

      test : (ltb v n ≡ true) × ((ltb a n && (eqb a 0 || after_reaches n (forwards g) a v)) ≡ true) → (a ≡ 0) ⊎ (a ≢ 0) → column rows a v ≡ true
      test p (inl z) = ap (λ (x : ℕ). column rows x v) z ∙ source_bit v ∙ reached_each entered v (ltb-true v n p.0)
      test p (inr z) = chained z (or_split (eqb a 0) (after_reaches n (forwards g) a v) (and_split (ltb a n) (eqb a 0 || after_reaches n (forwards g) a v) p.1).1)

  pub drawn_sets : Entered n (members g) → AnchorSets n g rows
  drawn_sets entered = record { bits = sets_by entered }
