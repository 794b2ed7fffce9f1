-- Deciding sets, on a well-posed list of edges: the executable tests are the relations, the start times are the largest terms of the deciding members, and none of these can be left out.
use mathlib.Core.Path.{◌∙◌, ◌≡◌, ap, refl, subst}
use mathlib.Core.Bool.{Bool, ◌&&◌, not, true}
use mathlib.Core.Logic.{◌↔◌, ◌≢◌, ◌⊎◌, inl, inr}
use mathlib.Core.List.{List}
use Prim.Native.Nat.{◌+◌, ◌<◌, ◌≤◌, ℕ}
use native.Mathlib.Omega.{arith}
use lib.Dec.{eqb, leb}
use borrow.Author.Tests.{eqb-false, le-leb, leb-true, ne_eqb, not-true}
use Rattle.definitions.specs.Anchors.{InAnchorSet, WellPosed, chain, in_anchor_set}
use Rattle.definitions.specs.Basics.{any_below, largest}
use Rattle.definitions.specs.Links.{Edge, members, no_leasts}
use Rattle.definitions.specs.Plan.{decides, offset, overrides}
use Rattle.laws.proofs.Bools.{and_join, and_split, both_ways, not_passing, same_or_not}
use Rattle.laws.proofs.Tests.{any_below_has, any_below_none, largest_above, largest_attained, largest_below, none_any_below}
use Rattle.theory.specs.Graphs.{Decides, Overrides, Relative, Shape, Well, sole_delay}
use Rattle.theory.proofs.Irredundance.{Small, deciding_attains, offset_triangle, strictly_largest}
use Rattle.theory.proofs.Reachability.{dec_member, in_anchor_set_iff}
use Rattle.theory.proofs.SoleDelays.{sole_delay_other, sole_delay_own, sole_delay_source}
use Rattle.theory.proofs.StartTimes.{start_term, start_time, start_times_relative}
use Rattle.theory.proofs.Usables.{well_acyclic}
use Rattle.theory.proofs.Walks.{after_trans, member_below}

-- Who decides is a member.
pub decides_member : (n : ℕ) (least : ℕ → ℕ) (es : List Edge) (a v : ℕ) → decides n least es a v ≡ true → in_anchor_set n es a v ≡ true
unfolding decides
decides_member n least es a v h = (and_split (in_anchor_set n es a v) (not (any_below (overrides n least es a v) n)) h).0

module _ {n : ℕ} {es : List Edge} (shape : Shape n (members es)) where
  pub overrides_iff : (a v b : ℕ) → (overrides n no_leasts es a v b ≡ true) ↔ Overrides (members es) (offset n no_leasts es) a v b
  unfolding overrides
  overrides_iff a v b = (found, test)
    where
      found : (not (eqb b a) && in_anchor_set n es b v && in_anchor_set n es a b && leb (offset n no_leasts es a v) (offset n no_leasts es a b + 0 + offset n no_leasts es b v)) ≡ true → Overrides (members es) (offset n no_leasts es) a v b
      found h =
          let r = and_split (not (eqb b a) && in_anchor_set n es b v && in_anchor_set n es a b) (leb (offset n no_leasts es a v) (offset n no_leasts es a b + 0 + offset n no_leasts es b v)) h in
          let s = and_split (not (eqb b a) && in_anchor_set n es b v) (in_anchor_set n es a b) r.0 in
          let t = and_split (not (eqb b a)) (in_anchor_set n es b v) s.0 in
          record { other = eqb-false b a (not-true (eqb b a) t.0); inside = (in_anchor_set_iff shape b v).0 t.1; behind = (in_anchor_set_iff shape a b).0 s.1; heavy = omega (arith, leb-true (offset n no_leasts es a v) (offset n no_leasts es a b + 0 + offset n no_leasts es b v) r.1) }

      test : Overrides (members es) (offset n no_leasts es) a v b → (not (eqb b a) && in_anchor_set n es b v && in_anchor_set n es a b && leb (offset n no_leasts es a v) (offset n no_leasts es a b + 0 + offset n no_leasts es b v)) ≡ true
      test o =
          and_join
          (and_join (and_join (ap not (ne_eqb b a o.other)) ((in_anchor_set_iff shape b v).1 o.inside)) ((in_anchor_set_iff shape a b).1 o.behind))
          (le-leb (offset n no_leasts es a v) (offset n no_leasts es a b + 0 + offset n no_leasts es b v) (omega (arith, o.heavy)))

  -- Who leaves a out of v's set is a member of it, and so below n.
  pub decides_iff : (a v : ℕ) → v < n → (decides n no_leasts es a v ≡ true) ↔ Decides (members es) (offset n no_leasts es) a v
  unfolding decides
  decides_iff a v h = (found, test)
    where
      found : (in_anchor_set n es a v && not (any_below (overrides n no_leasts es a v) n)) ≡ true → Decides (members es) (offset n no_leasts es) a v
      found k =
          let r = and_split (in_anchor_set n es a v) (not (any_below (overrides n no_leasts es a v) n)) k in
          record { inside = (in_anchor_set_iff shape a v).0 r.0; alone = λ b o. both_ways ((overrides_iff a v b).1 o) (any_below_none (overrides n no_leasts es a v) n (not-true (any_below (overrides n no_leasts es a v) n) r.1) b (member_below shape h o.inside)) }

      test : Decides (members es) (offset n no_leasts es) a v → (in_anchor_set n es a v && not (any_below (overrides n no_leasts es a v) n)) ≡ true
      test D =
          and_join
          ((in_anchor_set_iff shape a v).1 D.inside)
          (ap not (none_any_below (overrides n no_leasts es a v) n (λ b c. not_passing (overrides n no_leasts es a v b) (λ t. D.alone b ((overrides_iff a v b).0 t)))))

-- Enough: the largest term over the deciding members is the start.
module _ {n : ℕ} {es : List Edge} (well : Well n (members es)) (posed : WellPosed (members es)) where
  pub deciding_enough : (d : ℕ → ℕ) → d 0 ≡ 0 → (v : ℕ) → v < n → start_time n es d v ≡ largest (λ a. decides n no_leasts es a v) (start_term n es d v) n
  deciding_enough d d0 v b =
      let r = deciding_attains well.shape (well_acyclic well) well.rooted (dec_member well.shape) rel v b in
      let low : S v ≤ largest (λ a. decides n no_leasts es a v) value n = omega (arith, r.2, largest_above (λ a. decides n no_leasts es a v) value n r.0 (member_below well.shape b r.1.inside) ((decides_iff well.shape r.0 v b).1 r.1)) in
      let high : largest (λ a. decides n no_leasts es a v) value n ≤ S v = largest_below (λ a. decides n no_leasts es a v) value n (S v) (λ a c i. rel.above a v b ((decides_iff well.shape a v b).0 i).inside) in
      omega arith
    where
      S : ℕ → ℕ
      S x = start_time n es d x

      value : ℕ → ℕ
      value a = start_term n es d v a

      rel : Relative n (members es) d (start_time n es d) (offset n no_leasts es)
      rel = start_times_relative well posed d d0

  -- So some member decides.
  pub deciding_some : (v : ℕ) → v < n → (a : ℕ) × (a < n) × (decides n no_leasts es a v ≡ true)
  deciding_some v b =
      let r = deciding_attains well.shape (well_acyclic well) well.rooted (dec_member well.shape) (start_times_relative well posed (λ x. 0) refl) v b in
      (r.0, member_below well.shape b r.1.inside, (decides_iff well.shape r.0 v b).1 r.1)

-- A part of the anchor set of v whose largest term is the start.
pub record Suffices (n : ℕ) (es : List Edge) (d : ℕ → ℕ) (part : ℕ → Bool) (v : ℕ) : Type 0 where
  pub within : (b : ℕ) → part b ≡ true → in_anchor_set n es b v ≡ true
  pub some : any_below part n ≡ true
  pub same : start_time n es d v ≡ largest part (start_term n es d v) n

-- Needed: where a lasts x, more than twice what any offset is, its term alone is the largest.
module _ {n : ℕ} {es : List Edge} (well : Well n (members es)) (posed : WellPosed (members es)) (limit : ℕ) (small : Small n (members es) (offset n no_leasts es) limit) (x : ℕ) (long : limit + limit < x) where
  pub deciding_strict : (a v : ℕ) → v < n → decides n no_leasts es a v ≡ true → (b : ℕ) → b ≢ a → InAnchorSet (members es) b v → start_term n es (sole_delay x a) v b < start_term n es (sole_delay x a) v a
  deciding_strict a v b D =
      strictly_largest
      well.shape
      (well_acyclic well)
      rel
      (λ c y u h k i j. offset_triangle well.shape (well_acyclic well) posed i j.walk.not_source (rel.offsets c y h (chain i)) (rel.offsets y u k (chain j)) (rel.offsets c u k (chain (after_trans i j))))
      b
      ((decides_iff well.shape a v b).0 D)
      limit
      (record { long = λ z. omega (arith, sole_delay_own x a z); none = sole_delay_other x a })
      small
    where
      rel : Relative n (members es) (sole_delay x a) (start_time n es (sole_delay x a)) (offset n no_leasts es)
      rel = start_times_relative well posed (sole_delay x a) (sole_delay_source x a)

  -- So every part P of the anchor set that has the start among its terms, for the delays that show a, contains a.
  pub deciding_needed : (P : ℕ → Type 0) (a v : ℕ) → v < n → ((b : ℕ) → P b → InAnchorSet (members es) b v) → ((b : ℕ) × P b × (start_time n es (sole_delay x a) v ≡ start_term n es (sole_delay x a) v b)) → decides n no_leasts es a v ≡ true → P a
  deciding_needed P a v h part r D = go (same_or_not r.0 a)
    where
      go : (r.0 ≡ a) ⊎ (r.0 ≢ a) → P a
      go (inl e) = subst P e r.1
      go (inr e) =
          absurd
          (omega (
            arith,
            r.2,
            deciding_strict a v h D r.0 e (part r.0 r.1),
            (start_times_relative well posed (sole_delay x a) (sole_delay_source x a)).above a v h ((decides_iff well.shape a v h).0 D).inside,
          ))

  -- The same for a part given by a test, with the largest of its terms. A part with no member has no largest term.
  pub deciding_least : (part : ℕ → Bool) (a v : ℕ) → v < n → Suffices n es (sole_delay x a) part v → decides n no_leasts es a v ≡ true → part a ≡ true
  deciding_least part a v h part_of =
      deciding_needed (λ b. part b ≡ true) a v h (λ b i. (in_anchor_set_iff well.shape b v).0 (part_of.within b i)) (attained (largest_attained part value n))
    where
      value : ℕ → ℕ
      value = start_term n es (sole_delay x a) v

      attained : (largest part value n ≡ 0) ⊎ ((b : ℕ) × (b < n) × (part b ≡ true) × (largest part value n ≡ value b)) → (b : ℕ) × (part b ≡ true) × (start_time n es (sole_delay x a) v ≡ value b)
      attained (inr r) = (r.0, r.2, part_of.same ∙ r.3)
      attained (inl e) =
          let r = any_below_has part n part_of.some in
          (r.0, r.2, omega (arith, part_of.same, largest_above part value n r.0 r.1 r.2))
