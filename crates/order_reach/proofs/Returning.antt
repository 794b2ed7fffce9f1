-- From the anchor sets: the forward edges have handed on in them, and then every return hands on once.
use mathlib.Core.Path.{◌≡◌, refl, sym, ap, subst, ◌∙◌}
use mathlib.Core.Bool.{Bool, true, false, not, ◌&&◌}
use mathlib.Core.Logic.{◌⊎◌, inl, inr}
use mathlib.Core.List.{List}
use Prim.Native.Nat.{ℕ, ◌+◌, ◌≤◌, ◌<◌}
use native.Mathlib.Omega.{arith}
use native.Mathlib.Decide.{dec_lt}
use lib.Dec.{eqb, ltb}
use lib.ListN.{length, get_or, replicate}
use borrow.Author.Tests.{not-true}
use Rattle.definitions.specs.Basics.{test_bit}
use Rattle.definitions.specs.Links.{Edge, Forward, UsableFrom, late_into, members}
use Rattle.data_edges.specs.Words.{graph, unpack}
use Rattle.data_edges.proofs.Places.{graph_at, graph_place}
use Rattle.data_lists.proofs.Returning.{Passes}
use Rattle.laws.proofs.Bools.{and_join, and_split, bool_cases, both_ways, not_passing}
use Rattle.laws.proofs.Maps.{test_zero}
use Rattle.data_relations.proofs.Gathering.{Made, made_no_row}
use Rattle.theory.specs.Sweeps.{Leads}
use Rattle.theory.proofs.Usables.{late_into_iff}
use Rattle.order_reach.specs.Pushes.{Gives, Handed, HomeFrom, HomedAll, Joined, Marked, Returned, Settled, Stripped, Uncounted, Within, column}
use Rattle.order_reach.proofs.Passing.{gives_on}
use Rattle.order_reach.proofs.Pushing.{edge_handed}

-- The rows of the sets without step 0, made one by one.
abbrev pub stripped : List ℕ → ℕ → ℕ → Bool
stripped sets v a = column sets a v && not (eqb a 0)

pub stripped_start : (sets rows : List ℕ) → rows ≡ replicate 64 0 → Made (stripped sets) 0 rows
stripped_start sets rows blank = rw blank (made_no_row (stripped sets))

pub stripped_end : (sets rows : List ℕ) (k n : ℕ) → k ≤ n → n ≤ k → Made (stripped sets) k rows → Stripped sets n rows
stripped_end sets rows k n b c M =
    let e : k ≡ n = omega arith in
    record { long = M.long; bits = λ a v. M.bits v a ∙ ap (λ (x : ℕ). ltb v x && stripped sets v a) e }

-- Rows in which nothing is new are still so.
pub stripped_still : (sets rows rows' : List ℕ) (n k : ℕ) → length rows' ≡ 64 → k ≡ 0 → Marked rows rows' k → Stripped sets n rows → Stripped sets n rows'
stripped_still sets rows rows' n k long none marked S =
    record { long = long; bits = λ a v. marked a v (ap (λ (x : ℕ). test_bit x v) none ∙ test_zero v) ∙ S.bits a v }

-- One edge: a return hands on the anchors that may use it; another edge does nothing here.
pub returned_by : (x : Edge) (rows rows' : List ℕ) (k k' h from to : ℕ) → from ≡ x.from → to ≡ x.to → x.back ≡ true → ((a : ℕ) → test_bit h a ≡ (test_bit (get_or rows from 0) a && not (late_into a x))) → Joined to h rows rows' k k' → Returned x rows rows' k k'
returned_by x rows rows' k k' h from to starts ends back may J = record { long = J.long; marks = J.marks; marked = J.marked; hands = λ plain. record { long = J.long; each = λ a. each plain a } }
  where
    K : Joined x.to h rows rows' k k'
    K = rw ends at J

    may_at : (a : ℕ) → test_bit h a ≡ (column rows a x.from && not (late_into a x))
    may_at a = may a ∙ ap (λ (u : ℕ). column rows a u && not (late_into a x)) starts

    only : (a : ℕ) → test_bit h a ≡ true → ((column rows a x.from ≡ true) ⊎ Leads a x) × HomeFrom a x
    only a t =
        let p = and_split (column rows a x.from) (not (late_into a x)) (sym (may_at a) ∙ t) in
        (inl p.0, (back, λ l. both_ways ((late_into_iff x a).1 l) (not-true (late_into a x) p.1)))

    offers : Uncounted (λ e. e ≡ x) → (a : ℕ) → HomeFrom a x → (column rows a x.from ≡ true) ⊎ Leads a x → test_bit h a ≡ true
    offers plain a u (inl t) = may_at a ∙ and_join t (ap not (not_passing (late_into a x) (λ l. u.1 ((late_into_iff x a).0 l))))
    offers plain a u (inr l) = absurd (both_ways l.counts (plain x refl back))

    each : Uncounted (λ e. e ≡ x) → (a : ℕ) → Handed a (λ e. (e ≡ x) × HomeFrom a e) x.from (column rows a x.from) (column rows a) (column rows' a) (test_bit k) (test_bit k')
    each plain a = edge_handed HomeFrom a x (column rows a x.from) (test_bit h a) (column rows a) (column rows' a) (test_bit k) (test_bit k') (only a) (offers plain a) (K.here a) (K.other a) K.marks (K.marked a)

pub returned_idle : (x : Edge) (rows : List ℕ) (k : ℕ) → length rows ≡ 64 → x.back ≡ false → Returned x rows rows k k
returned_idle x rows k long ahead =
    record { long = long; marks = λ v q. q; marked = λ a v q. refl; hands = λ plain. record { long = long; each = λ a. record { up = λ v q. q; hands = λ e f o t. absurd (both_ways f.1.0 (ap (λ (y : Edge). y.back) f.0 ∙ ahead)); sound = λ t st holds below. below; marks = λ v q. q; marked = λ v q. refl } } }

-- The edges that have handed on after k words: the forward ones, and those of the words.
pub record Early (es : List ℕ) (k : ℕ) (e : Edge) : Type 0 where
  pub place : ℕ
  pub before : place < k
  pub same : e ≡ unpack (get_or es place 0)

-- One column after k words.
pub record Homing (a : ℕ) (es : List ℕ) (k : ℕ) (r s g : ℕ → Bool) : Type 0 where
  pub sound : (t : ℕ → Bool) → Settled a (UsableFrom (members (graph es)) a) t → Within r t → Within s t
  pub covers : Settled a (Forward (UsableFrom (members (graph es)) a)) r → (e : Edge) → UsableFrom (members (graph es)) a e → (e.back ≡ false) ⊎ Early es k e → g e.from ≡ false → Gives a s e → s e.to ≡ true

pub record HomingAll (es : List ℕ) (rows rows' : List ℕ) (marks k : ℕ) : Type 0 where
  pub long : length rows' ≡ 64
  pub marked : Marked rows rows' marks
  pub each : Uncounted (members (graph es)) → (a : ℕ) → Homing a es k (column rows a) (column rows' a) (test_bit marks)

module _ (es rows₀ : List ℕ) where
  pub homing_start : length rows₀ ≡ 64 → HomingAll es rows₀ rows₀ 0 0
  homing_start long = record { long = long; marked = λ a v q. refl; each = λ plain a. record { sound = λ t st below. below; covers = λ st e m early q k. st e (m, ahead e early) k } }
    where
      ahead : (e : Edge) → (e.back ≡ false) ⊎ Early es 0 e → e.back ≡ false
      ahead e (inl f) = f
      ahead e (inr i) = absurd (let f : ⊥ = omega (arith, i.before) in f)

  -- One word more. What it handed on is in the column; a step whose row grew has a mark.
  module _ (rows rows' : List ℕ) (marks marks' k : ℕ) (inside : k < length es) (S : HomingAll es rows₀ rows marks k) (R : Returned (unpack (get_or es k 0)) rows rows' marks marks') (plain : Uncounted (members (graph es))) (a : ℕ) where
    own : Handed a (λ e. (e ≡ unpack (get_or es k 0)) × HomeFrom a e) (unpack (get_or es k 0)).from (column rows a (unpack (get_or es k 0)).from) (column rows a) (column rows' a) (test_bit marks) (test_bit marks')
    own = (R.hands (λ e o b. plain e (subst (λ (x : Edge). members (graph es) x) (sym o) (graph_at es k inside)) b)).each a

    homing_sound : (t : ℕ → Bool) → Settled a (UsableFrom (members (graph es)) a) t → Within (column rows₀ a) t → Within (column rows' a) t
    homing_sound t st below =
        let within = (S.each plain a).sound t st below in
        own.sound t (λ e f. st e (subst (λ (x : Edge). members (graph es) x) (sym f.0) (graph_at es k inside), f.1.1)) (within (unpack (get_or es k 0)).from) within

    module _ (st : Settled a (Forward (UsableFrom (members (graph es)) a)) (column rows₀ a)) (e : Edge) (m : UsableFrom (members (graph es)) a e) (q : test_bit marks' e.from ≡ false) (gives : Gives a (column rows' a) e) where
      gave : Gives a (column rows a) e
      gave = gives_on (column rows' a) (column rows a) (λ h. sym (own.marked e.from q) ∙ h) gives

      old : (e.back ≡ false) ⊎ Early es k e → column rows' a e.to ≡ true
      old i = own.up e.to ((S.each plain a).covers st e m i (not_passing (test_bit marks e.from) (λ h. both_ways (own.marks e.from h) q)) gave)

      held : e ≡ unpack (get_or es k 0) → Gives a (column rows a) e → (column rows a (unpack (get_or es k 0)).from ≡ true) ⊎ Leads a e
      held o (inl h) = inl (sym (ap (λ (x : Edge). column rows a x.from) o) ∙ h)
      held o (inr l) = inr l

      new : e ≡ unpack (get_or es k 0) → (e.back ≡ true) ⊎ (e.back ≡ false) → column rows' a e.to ≡ true
      new o (inl b) = own.hands e (o, (b, m.1)) (ap (λ (x : Edge). x.from) o) (held o gave)
      new o (inr f) = old (inl f)

      homing_covers : (e.back ≡ false) ⊎ Early es (k + 1) e → column rows' a e.to ≡ true
      homing_covers (inl f) = old (inl f)
      homing_covers (inr i) = by (dec_lt i.place k)
        where
          by : Dec (i.place < k) → column rows' a e.to ≡ true
          by (yes b) = old (inr (record { place = i.place; before = b; same = i.same }))
          by (no b) =
              let here : i.place ≡ k = omega (arith, i.before) in
              new (i.same ∙ ap (λ (j : ℕ). unpack (get_or es j 0)) here) (bool_cases e.back)

  pub homing_turn : (rows rows' : List ℕ) (marks marks' k : ℕ) → k < length es → HomingAll es rows₀ rows marks k → Returned (unpack (get_or es k 0)) rows rows' marks marks' → HomingAll es rows₀ rows' marks' (k + 1)
  homing_turn rows rows' marks marks' k inside S R =
      record { long = R.long; marked = λ a v q. R.marked a v q ∙ S.marked a v (not_passing (test_bit marks v) (λ h. both_ways (R.marks v h) q)); each = λ plain a. record { sound = homing_sound rows rows' marks marks' k inside S R plain a; covers = λ st e m i q gives. homing_covers rows rows' marks marks' k inside S R plain a st e m q gives i } }

  -- A word that is no return may be passed over.
  pub homing_pass : (rows : List ℕ) (marks : ℕ) → Passes (HomingAll es rows₀ rows marks) es
  homing_pass rows marks k inside ahead S = homing_turn rows rows marks marks k inside S (returned_idle (unpack (get_or es k 0)) rows marks S.long ahead)

  -- Every edge is the edge of a word.
  pub homing_end : (rows : List ℕ) (marks k : ℕ) → length es ≤ k → HomingAll es rows₀ rows marks k → HomedAll (members (graph es)) rows₀ rows marks
  homing_end rows marks k all S =
      record { long = S.long; marked = S.marked; each = λ plain a. record { sound = (S.each plain a).sound; covers = λ st e m q gives. let p = graph_place es e m.0 in (S.each plain a).covers st e m (inr (record { place = p.0; before = omega (arith, p.1); same = sym p.2 })) q gives } }
