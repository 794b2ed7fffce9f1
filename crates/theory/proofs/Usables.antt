-- The edges that a walk counted from the end of a may use: all but the late returns into a. They are a graph of their own for each anchor, with the same chains and the same anchor sets.
use mathlib.Core.Path.{◌≡◌}
use mathlib.Core.Bool.{false, true}
use mathlib.Core.Logic.{◌↔◌, ◌⊎◌, inl, inr}
use mathlib.Core.List.{List}
use Prim.Native.Nat.{ℕ}
use lib.Dec.{eqb}
use borrow.Author.Tests.{eq-eqb, eqb-true}
use Rattle.definitions.specs.Anchors.{InAnchorSet, WellPosed, chain, is_source}
use Rattle.definitions.specs.Links.{After, Edge, Forward, Graph, LateInto, UsableFrom, ◌⊑◌, late_into, members, usable}
use Rattle.laws.proofs.Bools.{and_join, and_split, both_ways, not_passing, test_decides}
use Rattle.laws.proofs.Lists.{mem_without, without_mem, without_none}
use Rattle.theory.specs.Graphs.{Acyclic, Carries, Consistent, NonPositive, Shape, Timely, Well}
use Rattle.theory.proofs.Walks.{after_mono, member_mono, some_after, walk_mono}

-- The test of a late return is the relation.
pub late_into_iff : (e : Edge) (a : ℕ) → (late_into a e ≡ true) ↔ LateInto e a
unfolding late_into
late_into_iff e a = (λ h. let r = and_split e.late (eqb e.to a) h in (r.0, eqb-true e.to a r.1), λ i. and_join i.0 (eq-eqb e.to a i.1))

pub dec_late_into : (e : Edge) (a : ℕ) → Dec (LateInto e a)
dec_late_into e a = test_decides (late_into_iff e a)

pub usable_sub : (E : Graph) (a : ℕ) → UsableFrom E a ⊑ E
usable_sub E a e m = m.0

-- The edges of the list that walks from the end of a may use are those of its graph.
pub usable_members : (es : List Edge) (a : ℕ) → UsableFrom (members es) a ⊑ members (usable es a)
unfolding usable
usable_members es a e m = without_mem (late_into a) es m.0 (not_passing (late_into a e) (λ t. m.1 ((late_into_iff e a).0 t)))

pub members_usable : (es : List Edge) (a : ℕ) → members (usable es a) ⊑ UsableFrom (members es) a
unfolding usable
members_usable es a e m = let r = mem_without (late_into a) es m in (r.0, λ l. both_ways ((late_into_iff e a).1 l) r.1)

-- A part of a graph has its shape.
pub shape_part : {n : ℕ} {E F : Graph} → E ⊑ F → Shape n F → Shape n E
shape_part i shape = record {
  from_below = λ e m. shape.from_below e (i e m);
  to_below = λ e m. shape.to_below e (i e m);
  back_uncounted = λ e m. shape.back_uncounted e (i e m);
  forward_lossless = λ e m. shape.forward_lossless e (i e m);
  forward_timely = λ e m. shape.forward_timely e (i e m);
  late_not_source = λ e m. shape.late_not_source e (i e m);
}

module _ {n : ℕ} {E : Graph} (shape : Shape n E) where
  -- Forward edges are never late, and so are usable from everywhere.
  pub forward_usable : (a : ℕ) (e : Edge) → E e → e.back ≡ false → ¬ LateInto e a
  forward_usable a e m b i = both_ways i.0 (shape.forward_timely e m b)

  pub forwards_usable : (a : ℕ) → Forward E ⊑ Forward (UsableFrom E a)
  forwards_usable a e m = ((m.0, forward_usable a e m.0 m.1), m.1)

  pub usable_shape : (a : ℕ) → Shape n (UsableFrom E a)
  usable_shape a = shape_part (usable_sub E a) shape

  -- So anchor sets are the same over them.
  pub member_usable : {a v : ℕ} (b : ℕ) → InAnchorSet E a v → InAnchorSet (UsableFrom E b) a v
  member_usable b (is_source h) = is_source h
  member_usable b (chain c) = chain (some_after (after_mono (forwards_usable b) c.walk))

  pub usable_member : {a v : ℕ} (b : ℕ) → InAnchorSet (UsableFrom E b) a v → InAnchorSet E a v
  usable_member b i = member_mono (usable_sub E b) i

  -- In a well-posed graph every return that the end of a may use carries a on.
  pub carries_usable : WellPosed E → (a : ℕ) → Carries (UsableFrom E a) a
  carries_usable posed a e m b i = go (posed a e m.0 b (usable_member a i))
    where
      go : InAnchorSet E a e.to ⊎ LateInto e a → InAnchorSet (UsableFrom E a) a e.to
      go (inl j) = member_usable a j
      go (inr j) = absurd (m.1 j)

  -- A chain is a walk from the end of its first step; so where no step waits for its own end, none comes before itself.
  pub chain_usable : {a v : ℕ} → After (Forward E) a v → After (UsableFrom E a) a v
  chain_usable {a} w = some_after (after_mono (λ e m. (forwards_usable a e m).0) w.walk)

  pub consistent_acyclic : Consistent E → Acyclic (Forward E)
  consistent_acyclic consistent a w = consistent a (chain_usable w)

pub well_acyclic : {n : ℕ} {E : Graph} → Well n E → Acyclic (Forward E)
well_acyclic well = consistent_acyclic well.shape well.consistent

-- The same of the list.
pub usable_list_shape : {n : ℕ} {es : List Edge} → Shape n (members es) → (a : ℕ) → Shape n (members (usable es a))
usable_list_shape {n} {es} shape a = shape_part (λ e m. (members_usable es a e m).0) shape

pub carries_list : {n : ℕ} {es : List Edge} → Shape n (members es) → WellPosed (members es) → (a : ℕ) → Carries (members (usable es a)) a
carries_list {n} {es} shape posed a e m b i =
    member_mono (usable_members es a) (carries_usable shape posed a e (members_usable es a e m) b (member_mono (members_usable es a) i))

pub nonpositive_mono : {E F : Graph} → E ⊑ F → NonPositive F → NonPositive E
nonpositive_mono i never = record { closed = λ w. never.closed (walk_mono i w) }

-- Where no return is late nothing is left out.
pub timely_usable : {E : Graph} → Timely E → (a : ℕ) → E ⊑ UsableFrom E a
timely_usable timely a e m = (m, λ i. both_ways i.0 (timely e m))

pub usable_timely : (es : List Edge) (a : ℕ) → Timely (members es) → usable es a ≡ es
unfolding usable
usable_timely es a timely = without_none (late_into a) es (λ e m. not_passing (late_into a e) (λ t. both_ways ((late_into_iff e a).0 t).0 (timely e m)))
