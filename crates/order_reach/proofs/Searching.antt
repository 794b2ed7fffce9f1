-- What stands in the rows after the trips: exactly the anchors from whose end a walk comes there, over the edges that it may use. After k trips every such walk of at most k edges is found; a walk that visits no step twice has
-- at most n. Where no mark is left, every edge has handed on.
use mathlib.Core.Path.{◌≡◌, sym, ap, ◌∙◌}
use mathlib.Core.Bool.{Bool, true, not, ◌&&◌}
use mathlib.Core.Logic.{inl, inr, ◌≢◌}
use mathlib.Core.List.{List}
use Prim.Native.Nat.{ℕ, ◌+◌, ◌≤◌, ◌<◌}
use native.Mathlib.Omega.{arith}
use lib.Dec.{eqb, ltb}
use lib.ListN.{length}
use borrow.Author.Tests.{eqb-false, lt-ltb, ne_eqb, not-true}
use Rattle.data_relations.specs.Sets.{AnchorSets}
use Rattle.definitions.specs.Anchors.{InAnchorSet, chain, in_anchor_set, is_source}
use Rattle.definitions.specs.Basics.{test_bit}
use Rattle.definitions.specs.Links.{After, AfterWalk, Edge, Forward, Graph, UsableFrom, Walk, ◌⊑◌, members, step, stop, usable}
use Rattle.definitions.specs.Rounds.{after_reaches}
use Rattle.data_edges.specs.Words.{graph}
use Rattle.laws.proofs.Bools.{and_join, and_split, both_ways, same_test}
use Rattle.laws.proofs.Maps.{test_zero}
use Rattle.theory.specs.Graphs.{Shape}
use Rattle.theory.specs.Sweeps.{Leads}
use Rattle.theory.proofs.Pigeonhole.{brief}
use Rattle.theory.proofs.Reachability.{in_anchor_set_iff}
use Rattle.theory.proofs.Usables.{usable_shape}
use Rattle.theory.proofs.WaitLists.{usable_reaches_iff}
use Rattle.theory.proofs.Walks.{after_edge, after_from, after_join, after_mono, after_start_below, chain_after, some_after, walk_edge}
use Rattle.order_reach.specs.Pushes.{Covered, Gives, HomedAll, Reached, Settled, Stripped, CarriedAll, Within, column}

-- The edges that walks from the end of a may use.
abbrev pub Own : List ℕ → ℕ → Graph
Own es a = UsableFrom (members (graph es)) a

-- Whether a walk comes is a column in which every edge has handed on: an edge makes a walk longer, or begins one.
reaches_settled : {n : ℕ} (es : List ℕ) → Shape n (members (graph es)) → (a : ℕ) → Settled a (Own es a) (after_reaches n (usable (graph es) a) a)
reaches_settled {n} es shape a e m k = (usable_reaches_iff shape a e.to).1 (by k)
  where
    by : Gives a (after_reaches n (usable (graph es) a) a) e → After (Own es a) a e.to
    by (inl h) = some_after (after_join ((usable_reaches_iff shape a e.from).0 h).walk (walk_edge e m))
    by (inr l) = some_after (after_from (sym l.leaves) (after_edge e m l.counts (λ z. l.not_source (sym l.leaves ∙ z))))

-- Such a column has every walk. By induction on the walk after its first edge.
pub settled_walk : {a : ℕ} {E : Graph} (r : ℕ → Bool) → Settled a E r → (e : Edge) → E e → Leads a e → {y k p q : ℕ} → Walk E e.to y k p q → r y ≡ true
settled_walk r st e m l (stop h hk hp hq) = sym (ap r h) ∙ st e m (inr l)
settled_walk r st e m l (step w g i b o hk hp hq) = sym (ap r o) ∙ st g i (inl (ap r b ∙ settled_walk r st e m l w))

-- How a walk from the end of a begins.
pub leads : {E : Graph} {a y p q : ℕ} → (w : AfterWalk E a y p q) → Leads a w.edge
leads w = record { not_source = w.not_source; leaves = w.leaves; counts = w.counts }

-- After k trips.
pub record Searched (es : List ℕ) (n k : ℕ) (rows : List ℕ) (marks : ℕ) : Type 0 where
  pub sound : Shape n (members (graph es)) → (a : ℕ) (t : ℕ → Bool) → Settled a (Own es a) t → Within (column rows a) t
  pub covers : Shape n (members (graph es)) → (a : ℕ) → Covered a (Own es a) (column rows a) (test_bit marks)
  pub found : Shape n (members (graph es)) → (a : ℕ) (e : Edge) → Own es a e → Leads a e → {y j p q : ℕ} → Walk (Own es a) e.to y j p q → j < k → column rows a y ≡ true

-- The answer, where it has every walk.
module _ (es : List ℕ) (n : ℕ) (rows : List ℕ) (long : length rows ≡ 64) (sound : Shape n (members (graph es)) → (a : ℕ) (t : ℕ → Bool) → Settled a (Own es a) t → Within (column rows a) t) (whole : Shape n (members (graph es)) → (a v : ℕ) → After (Own es a) a v → column rows a v ≡ true) where
  reached : Reached n (graph es) rows
  reached =
      record { long = long; reaches = λ shape a v. same_test (column rows a v) (after_reaches n (usable (graph es) a) a v) (sound shape a (after_reaches n (usable (graph es) a) a) (reaches_settled es shape a) v) (λ h. whole shape a v ((usable_reaches_iff shape a v).0 h)) }

module _ (es : List ℕ) (n : ℕ) where
  -- The anchor sets without step 0 have the chains of forward edges that begin with a counted one.
  module _ (shape : Shape n (members (graph es))) (sets rows : List ℕ) (A : AnchorSets n (graph es) sets) (S : Stripped sets n rows) where
    forward_own : (a : ℕ) → Forward (members (graph es)) ⊑ Own es a
    forward_own a e m = (m.0, λ l. both_ways l.0 (shape.forward_timely e m.0 m.1))

    chained : (a v : ℕ) → column rows a v ≡ true → After (Forward (members (graph es))) a v
    chained a v h =
        let o = and_split (ltb v n) (column sets a v && not (eqb a 0)) (sym (S.bits a v) ∙ h) in
        let p = and_split (column sets a v) (not (eqb a 0)) o.1 in
        let q = and_split (ltb v n) (ltb a n && in_anchor_set n (graph es) a v) (sym (A.bits a v) ∙ p.0) in
        let r = and_split (ltb a n) (in_anchor_set n (graph es) a v) q.1 in
        member ((in_anchor_set_iff shape a v).0 r.1) (eqb-false a 0 (not-true (eqb a 0) p.1))
      where
        member : InAnchorSet (members (graph es)) a v → a ≢ 0 → After (Forward (members (graph es))) a v
        member (is_source o) z = absurd (z o)
        member (chain w) z = w

    stands : (a v : ℕ) → v < n → After (Forward (members (graph es))) a v → column rows a v ≡ true
    stands a v b w =
        S.bits a v
        ∙ and_join (lt-ltb v n b) (and_join (A.bits a v ∙ and_join (lt-ltb v n b) (and_join (lt-ltb a n (after_start_below shape (chain_after w))) ((in_anchor_set_iff shape a v).1 (chain w)))) (ap not (ne_eqb a 0 w.walk.not_source)))

    begun_settled : (a : ℕ) → Settled a (Forward (Own es a)) (column rows a)
    begun_settled a e m k = stands a e.to (shape.to_below e m.0.0) (by k)
      where
        by : Gives a (column rows a) e → After (Forward (members (graph es))) a e.to
        by (inl h) = some_after (after_join (chained a e.from h).walk (walk_edge e (m.0.0, m.1)))
        by (inr l) = some_after (after_from (sym l.leaves) (after_edge e (m.0.0, m.1) l.counts (λ z. l.not_source (sym l.leaves ∙ z))))

    begun_sound : (a : ℕ) (t : ℕ → Bool) → Settled a (Own es a) t → Within (column rows a) t
    begun_sound a t st v h =
        let w = after_mono (forward_own a) (chained a v h).walk in
        settled_walk t st w.edge w.mem (leads w) w.rest

  -- Before the first trip.
  pub searched_start : (sets rows rows' : List ℕ) (marks : ℕ) → AnchorSets n (graph es) sets → Stripped sets n rows → HomedAll (members (graph es)) rows rows' marks → Searched es n 0 rows' marks
  searched_start sets rows rows' marks A S H =
      record { sound = λ shape a t st. (H.each shape.back_uncounted a).sound t st (begun_sound shape sets rows A S a t st); covers = λ shape a. (H.each shape.back_uncounted a).covers (begun_settled shape sets rows A S a); found = λ shape a e m l w b. absurd (let f : ⊥ = omega arith in f) }

  -- One trip more finds one edge more: the last of the walk.
  pub searched_more : (k : ℕ) (rows rows' : List ℕ) (marks marks' : ℕ) → CarriedAll (λ a. UsableFrom (members (graph es)) a) (λ v. v < n) rows rows' marks marks' → Searched es n k rows marks → Searched es n (k + 1) rows' marks'
  searched_more k rows rows' marks marks' P S = record { sound = λ shape a t st. (P.each a).sound t st (S.sound shape a t st); covers = λ shape a. (P.each a).covers (S.covers shape a); found = found_more }
    where
      found_more : Shape n (members (graph es)) → (a : ℕ) (e : Edge) → Own es a e → Leads a e → {y j p q : ℕ} → Walk (Own es a) e.to y j p q → j < k + 1 → column rows' a y ≡ true
      found_more shape a e m l (stop h hk hp hq) b =
          sym (ap (column rows' a) h) ∙ (P.each a).hands (S.covers shape a) e m (shape.from_below e m.0) (inr l)
      found_more shape a e m l (step w g i f o hk hp hq) b =
          sym (ap (column rows' a) o) ∙ (P.each a).hands (S.covers shape a) g i (shape.from_below g i.0) (inl (ap (column rows a) f ∙ S.found shape a e m l w (omega arith)))

  module _ (k : ℕ) (rows : List ℕ) (marks : ℕ) (long : length rows ≡ 64) where
    -- No mark is left.
    pub searched_rest : marks ≡ 0 → Searched es n k rows marks → Reached n (graph es) rows
    searched_rest z S = reached es n rows long S.sound (λ shape a v w. let u = w.walk in settled_walk (column rows a) (settled shape a) u.edge u.mem (leads u) u.rest)
      where
        settled : Shape n (members (graph es)) → (a : ℕ) → Settled a (Own es a) (column rows a)
        settled shape a e m = S.covers shape a e m (ap (λ (x : ℕ). test_bit x e.from) z ∙ test_zero e.from)

    -- n trips are done.
    pub searched_end : n ≤ k → Searched es n k rows marks → Reached n (graph es) rows
    searched_end b S = reached es n rows long S.sound whole
      where
        whole : Shape n (members (graph es)) → (a v : ℕ) → After (Own es a) a v → column rows a v ≡ true
        whole shape a v w =
            let u = w.walk in
            let s = brief (usable_shape shape a) (shape.to_below u.edge u.mem.0) (record { k = u.k; p = u.g; q = u.l; walk = u.rest }) in
            S.found shape a u.edge u.mem (leads u) s.walk (omega (arith, s.few))
