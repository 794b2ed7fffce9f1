-- Edges out of one step, one after another.
use mathlib.Core.Path.{◌≡◌, refl, sym, ap, subst, ◌∙◌}
use mathlib.Core.Bool.{Bool, true, false, and-true, cond, not, ◌&&◌, ◌||◌}
use mathlib.Core.Logic.{◌⊎◌, inl, inr, ◌≢◌}
use mathlib.Core.List.{List}
use Prim.Native.Nat.{ℕ, ◌<◌}
use native.Mathlib.Omega.{arith}
use lib.Dec.{eqb}
use lib.ListN.{length, get_or, set, length-set}
use lib.Seq.{get_or-set_same, get_or-set_other}
use borrow.Author.Tests.{eq-eqb, eqb-false, eqb-true, ne_eqb, not-false, not-true}
use Rattle.data_lists.proofs.Following.{Adds, Following}
use Rattle.definitions.specs.Basics.{test_bit}
use Rattle.definitions.specs.Links.{Edge, Graph, LateInto, UsableFrom, ◌⊑◌, late_into}
use Rattle.laws.proofs.Bools.{and_join, and_split, both_ways, cond_true, not_passing, or_left, or_neither, or_right, or_split, same_or_not}
use Rattle.theory.specs.Sweeps.{Leads}
use Rattle.theory.proofs.Usables.{late_into_iff}
use Rattle.order_reach.specs.Pushes.{Begun, Handed, HandedAll, Joined, Settled, Within, column}

-- Which edges an anchor may use is given as a relation U: in crate order_reach all but late returns into it, in crate sorting the forward edges.
abbrev pub Using : (ℕ → Edge → Type 0) → Graph → ℕ → Graph
Using U E a e = E e × U a e

abbrev pub MayUse : ℕ → Edge → Type 0
MayUse a e = ¬ LateInto e a

-- One edge on one column: its end comes into it where h stands, which says that the edge has something for the column and may be used.
module _ (U : ℕ → Edge → Type 0) (a : ℕ) (e : Edge) (held h : Bool) (r s f g : ℕ → Bool) (only : h ≡ true → ((held ≡ true) ⊎ Leads a e) × U a e) (offers : U a e → (held ≡ true) ⊎ Leads a e → h ≡ true) (here : s e.to ≡ (r e.to || h)) (other : (v : ℕ) → v ≢ e.to → s v ≡ r v) where
  edge_up : Within r s
  edge_up v q = by (same_or_not v e.to)
    where
      by : (v ≡ e.to) ⊎ (v ≢ e.to) → s v ≡ true
      by (inl o) = ap s o ∙ here ∙ or_left h (sym (ap r o) ∙ q)
      by (inr o) = other v o ∙ q

  edge_hands : (x : Edge) → Using U (λ y. y ≡ e) a x → (held ≡ true) ⊎ Leads a x → s x.to ≡ true
  edge_hands x m =
      subst (λ (y : Edge). U a y → (held ≡ true) ⊎ Leads a y → s y.to ≡ true) (sym m.0) (λ l k. here ∙ or_right (r e.to) (offers l k)) m.1

  edge_sound : (t : ℕ → Bool) → Settled a (Using U (λ y. y ≡ e) a) t → (held ≡ true → t e.from ≡ true) → Within r t → Within s t
  edge_sound t st holds below v q = by (same_or_not v e.to)
    where
      gives : (held ≡ true) ⊎ Leads a e → (t e.from ≡ true) ⊎ Leads a e
      gives (inl k) = inl (holds k)
      gives (inr l) = inr l

      at : (r e.to ≡ true) ⊎ (h ≡ true) → t e.to ≡ true
      at (inl k) = below e.to k
      at (inr k) = let p = only k in st e (refl, p.1) (gives p.0)

      by : (v ≡ e.to) ⊎ (v ≢ e.to) → t v ≡ true
      by (inl o) = ap t o ∙ at (or_split (r e.to) h (sym here ∙ sym (ap s o) ∙ q))
      by (inr o) = below v (sym (other v o) ∙ q)

  pub edge_handed : Within f g → ((v : ℕ) → g v ≡ false → s v ≡ r v) → Handed a (Using U (λ y. y ≡ e) a) e.from held r s f g
  edge_handed marks marked = record { up = edge_up; hands = λ x m o k. edge_hands x m k; sound = edge_sound; marks = marks; marked = marked }

-- What the code hands on: the anchors that the edge starts from, where they may use it.
module _ (e : Edge) (m all given : ℕ) (begins : Begun e.from m all) (chosen : given ≡ cond e.counted all m) where
  given_only : (a : ℕ) → test_bit given a ≡ true → (test_bit m a ≡ true) ⊎ Leads a e
  given_only a k = by e.counted refl (sym (ap (λ (x : ℕ). test_bit x a) chosen) ∙ k)
    where
      own : e.counted ≡ true → (test_bit m a ≡ true) ⊎ ((not (eqb e.from 0) && eqb a e.from) ≡ true) → (test_bit m a ≡ true) ⊎ Leads a e
      own c (inl i) = inl i
      own c (inr i) =
          let p = and_split (not (eqb e.from 0)) (eqb a e.from) i in
          let o = eqb-true a e.from p.1 in
          inr (record { not_source = λ z. eqb-false e.from 0 (not-true (eqb e.from 0) p.0) (sym o ∙ z); leaves = sym o; counts = c })

      by : (c : Bool) → e.counted ≡ c → test_bit (cond c all m) a ≡ true → (test_bit m a ≡ true) ⊎ Leads a e
      by true c i = own c (or_split (test_bit m a) (not (eqb e.from 0) && eqb a e.from) (sym (begins a) ∙ i))
      by false c i = inl i

  given_by : (a : ℕ) → (test_bit m a ≡ true) ⊎ Leads a e → test_bit given a ≡ true
  given_by a (inl i) = ap (λ (x : ℕ). test_bit x a) chosen ∙ by e.counted
    where
      by : (c : Bool) → test_bit (cond c all m) a ≡ true
      by true = begins a ∙ or_left (not (eqb e.from 0) && eqb a e.from) i
      by false = i
  given_by a (inr l) =
      ap (λ (x : ℕ). test_bit x a) (chosen ∙ cond_true all m l.counts)
      ∙ begins a
      ∙ or_right (test_bit m a) (and_join (ap not (ne_eqb e.from 0 (λ z. l.not_source (sym l.leaves ∙ z)))) (eq-eqb a e.from (sym l.leaves)))

  -- They come into the row of its end.
  pub handed_where : (U : ℕ → Edge → Type 0) (h : ℕ) → ((a : ℕ) → test_bit h a ≡ true → (test_bit given a ≡ true) × U a e) → ((a : ℕ) → U a e → test_bit given a ≡ true → test_bit h a ≡ true) → (rows rows' : List ℕ) (marks marks' to : ℕ) → to ≡ e.to → Joined to h rows rows' marks marks' → HandedAll (Using U (λ y. y ≡ e)) e.from m rows rows' marks marks'
  handed_where U h only may rows rows' marks marks' to ends J =
      let K : Joined e.to h rows rows' marks marks' = rw ends at J in
      record { long = K.long; each = λ a. edge_handed U a e (test_bit m a) (test_bit h a) (column rows a) (column rows' a) (test_bit marks) (test_bit marks') (λ k. let p = only a k in (given_only a p.0, p.1)) (λ u k. may a u (given_by a k)) (K.here a) (K.other a) K.marks (K.marked a) }

  -- So do those whose walks may use a late return.
  pub word_handed : {h : ℕ} → ((a : ℕ) → test_bit h a ≡ (test_bit given a && not (late_into a e))) → (rows rows' : List ℕ) (marks marks' to : ℕ) → to ≡ e.to → Joined to h rows rows' marks marks' → HandedAll (λ a. UsableFrom (λ y. y ≡ e) a) e.from m rows rows' marks marks'
  word_handed {h} may = handed_where MayUse h (λ a k. let p = and_split (test_bit given a) (not (late_into a e)) (sym (may a) ∙ k) in (p.0, λ l. both_ways ((late_into_iff e a).1 l) (not-true (late_into a e) p.1))) (λ a u k. may a ∙ and_join k (ap not (not_passing (late_into a e) (λ t. u ((late_into_iff e a).0 t)))))

-- Every anchor may use an edge that is not late.
pub timely_may : (e : Edge) (given a : ℕ) → e.late ≡ false → test_bit given a ≡ (test_bit given a && not (late_into a e))
unfolding late_into
timely_may e given a q = sym (ap (λ (t : Bool). test_bit given a && not (t && eqb e.to a)) q ∙ and-true (test_bit given a))

-- The union is stored. Without a mark it is what the row had.
module _ (rows : List ℕ) (marks marks' v h new : ℕ) (long : length rows ≡ 64) (low : v < 64) (joins : (a : ℕ) → test_bit new a ≡ (column rows a v || test_bit h a)) (more : Within (test_bit marks) (test_bit marks')) (same : test_bit marks' v ≡ false → new ≡ get_or rows v 0) where
  stored : get_or (set rows v new) v 0 ≡ new
  stored = get_or-set_same rows v new 0 (omega arith)

  other : (a u : ℕ) → u ≢ v → column (set rows v new) a u ≡ column rows a u
  other a u o = ap (λ (x : ℕ). test_bit x a) (get_or-set_other rows v u new 0 o)

  kept : (a u : ℕ) → test_bit marks' u ≡ false → (u ≡ v) ⊎ (u ≢ v) → column (set rows v new) a u ≡ column rows a u
  kept a u q (inr o) = other a u o
  kept a u q (inl o) =
      ap (column (set rows v new) a) o ∙ ap (λ (x : ℕ). test_bit x a) (stored ∙ same (sym (ap (test_bit marks') o) ∙ q)) ∙ sym (ap (column rows a) o)

  pub joined_by : Joined v h rows (set rows v new) marks marks'
  joined_by =
      record { long = length-set rows v new ∙ long; here = λ a. ap (λ (x : ℕ). test_bit x a) stored ∙ joins a; other = other; marks = more; marked = λ a u q. kept a u q (same_or_not u v) }

-- So it is where a mark comes only if the row grows.
pub joined : (rows : List ℕ) (marks marks' v h new : ℕ) → length rows ≡ 64 → v < 64 → ((a : ℕ) → test_bit new a ≡ (column rows a v || test_bit h a)) → ((u : ℕ) → test_bit marks' u ≡ (test_bit marks u || (not (eqb new (get_or rows v 0)) && eqb u v))) → Joined v h rows (set rows v new) marks marks'
joined rows marks marks' v h new long low joins bits =
    joined_by rows marks marks' v h new long low joins (λ u q. bits u ∙ or_left (not (eqb new (get_or rows v 0)) && eqb u v) q) (λ q.
    let n = ((or_neither (test_bit marks v) (not (eqb new (get_or rows v 0)) && eqb v v)).0 (sym (bits v) ∙ q)).1 in
    eqb-true new (get_or rows v 0) (not-false (eqb new (get_or rows v 0)) (sym (ap (λ (t : Bool). not (eqb new (get_or rows v 0)) && t) (eq-eqb v v refl) ∙ and-true (not (eqb new (get_or rows v 0)))) ∙ n)))

-- One graph and then another make a third, where the edges out of u are in one of them.
handed_both : {a : ℕ} {E F G : Graph} {u : ℕ} {held : Bool} {r s t f g h : ℕ → Bool} → E ⊑ G → F ⊑ G → ((e : Edge) → G e → e.from ≡ u → E e ⊎ F e) → Handed a E u held r s f g → Handed a F u held s t g h → Handed a G u held r t f h
handed_both {a} {E} {F} {G} {u} {held} {t = t} {g = g} i j split H K =
    record { up = λ v q. K.up v (H.up v q); hands = λ e m o k. by e o k (split e m o); sound = λ x st holds below. K.sound x (λ e m. st e (j e m)) holds (H.sound x (λ e m. st e (i e m)) holds below); marks = λ v q. K.marks v (H.marks v q); marked = λ v q. K.marked v q ∙ H.marked v (not_passing (g v) (λ k. both_ways (K.marks v k) q)) }
  where
    by : (e : Edge) → e.from ≡ u → (held ≡ true) ⊎ Leads a e → E e ⊎ F e → t e.to ≡ true
    by e o k (inl m) = K.up e.to (H.hands e m o k)
    by e o k (inr m) = K.hands e m o k

handed_all : {E F G : ℕ → Graph} {u u' m : ℕ} {rows rows' rows'' : List ℕ} {k k' k'' : ℕ} → u' ≡ u → ((a : ℕ) → E a ⊑ G a) → ((a : ℕ) → F a ⊑ G a) → ((a : ℕ) (e : Edge) → G a e → e.from ≡ u → E a e ⊎ F a e) → HandedAll E u m rows rows' k k' → HandedAll F u' m rows' rows'' k' k'' → HandedAll G u m rows rows'' k k''
handed_all {F = F} {u = u} {m = m} {rows' = rows'} {rows'' = rows''} {k' = k'} {k'' = k''} same i j split H K =
    record { long = K.long; each = λ a. let K' : Handed a (F a) u (test_bit m a) (column rows' a) (column rows'' a) (test_bit k') (test_bit k'') = rw same at (K.each a) in handed_both (i a) (j a) (split a) (H.each a) K' }

-- The same edges under another name.
handed_as : {E G : ℕ → Graph} {u m : ℕ} {rows rows' : List ℕ} {k k' : ℕ} → ((a : ℕ) → E a ⊑ G a) → ((a : ℕ) → G a ⊑ E a) → HandedAll E u m rows rows' k k' → HandedAll G u m rows rows' k k'
handed_as i j H =
    record { long = H.long; each = λ a. let h = H.each a in record { up = h.up; hands = λ e m o k. h.hands e (j a e m) o k; sound = λ t st holds below. h.sound t (λ e m. st e (i a e m)) holds below; marks = h.marks; marked = h.marked } }

-- What an anchor may use of one of two graphs.
usable_split : (U : ℕ → Edge → Type 0) (E F : Graph) {a : ℕ} {e : Edge} → U a e → E e ⊎ F e → Using U E a e ⊎ Using U F a e
usable_split U E F timely (inl m) = inl (m, timely)
usable_split U E F timely (inr m) = inr (m, timely)

-- The loop over the list of a step u, which hands on the anchors in m: the edges behind the one that comes next have handed on.
abbrev pub Listing : (ℕ → Edge → Type 0) → List ℕ → ℕ → ℕ → List ℕ → List ℕ → ℕ → ℕ → ℕ → Type 0
Listing U es u m rows₀ rows marks₀ marks = Following (λ E. HandedAll (Using U E) u m rows₀ rows marks₀ marks) es u

-- Nothing is handed on where no edge leaves u; one edge more hands on; the same edges under another name.
module _ (U : ℕ → Edge → Type 0) (u m : ℕ) (rows₀ : List ℕ) (marks₀ : ℕ) where
  pub handed_none : length rows₀ ≡ 64 → (E : Graph) → ((e : Edge) → E e → e.from ≢ u) → HandedAll (Using U E) u m rows₀ rows₀ marks₀ marks₀
  handed_none long E away =
      record { long = long; each = λ a. record { up = λ v q. q; hands = λ e b o q. absurd (away e b.0 o); sound = λ t st holds below. below; marks = λ v q. q; marked = λ v q. refl } }

  pub handed_more : {E : Graph} {x : Edge} {rows rows' : List ℕ} {marks marks' : ℕ} → HandedAll (Using U (λ e. e ≡ x)) x.from m rows rows' marks marks' → (G : Graph) → Adds u E x G → HandedAll (Using U E) u m rows₀ rows marks₀ marks → HandedAll (Using U G) u m rows₀ rows' marks₀ marks'
  handed_more {E} {x} K G A H =
      handed_all A.leaves (λ a e b. (A.old e b.0, b.1)) (λ a e o. (A.new e o.0, o.1)) (λ a e b o. usable_split U E (λ y. y ≡ x) b.1 (A.split e b.0 o)) H K

  pub handed_same : {rows : List ℕ} {marks : ℕ} (E G : Graph) → E ⊑ G → G ⊑ E → HandedAll (Using U E) u m rows₀ rows marks₀ marks → HandedAll (Using U G) u m rows₀ rows marks₀ marks
  handed_same E G i j H = handed_as (λ a e b. (i e b.0, b.1)) (λ a e b. (j e b.0, b.1)) H
