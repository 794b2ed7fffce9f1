-- Durations as least and extra (request L6): what is counted from the end of an open step, its least apart, and what is counted from its start with the least in its edges are the same plan.
use mathlib.Core.Path.{◌≡◌, ap, refl, ◌∙◌}
use mathlib.Core.Bool.{Bool, ◌&&◌, false, not, true}
use mathlib.Core.List.{List}
use Prim.Native.Nat.{◌+◌, ◌<◌, ◌≤◌, suc, zero, ℕ}
use native.Mathlib.Omega.{arith}
use lib.Dec.{eqb, leb}
use borrow.Author.Tests.{le-leb, leb-true}
use Rattle.definitions.specs.Anchors.{InAnchorSet, WellPosed, chain, in_anchor_set, is_source}
use Rattle.definitions.specs.Basics.{any_below}
use Rattle.definitions.specs.Links.{Edge, UsableFrom, members, no_leasts}
use Rattle.definitions.specs.Plan.{Offset, decides, offset, overrides, start_from, start_times, start_turns}
use Rattle.definitions.specs.Rounds.{cell}
use Rattle.laws.proofs.Bools.{and_split, same_test}
use Rattle.laws.proofs.Searches.{any_below_same}
use Rattle.laws.proofs.Tests.{largest_same, tabulate_same}
use Rattle.theory.specs.Graphs.{Leasts, Well}
use Rattle.theory.proofs.Offsets.{offset_found}
use Rattle.theory.proofs.Reachability.{in_anchor_set_iff}
use Rattle.theory.proofs.RelativeSchedules.{chain_offset}
use Rattle.theory.proofs.Walks.{member_below}

-- A test that comes first: the second is asked only where it passes.
and_where : (t x y : Bool) → (t ≡ true → x ≡ y) → (t && x) ≡ (t && y)
and_where true x y h = h refl
and_where false x y h = refl

module _ (least : ℕ → ℕ) {n : ℕ} {es : List Edge} (well : Well n (members es)) (posed : WellPosed (members es)) (leasts : Leasts least (members es)) (unlasting : least 0 ≡ 0) where
  -- The first edge of a member's chain gains the least of the member; step 0 has none.
  pub offset_least : (a v : ℕ) → v < n → InAnchorSet (members es) a v → least a ≤ offset n no_leasts es a v
  offset_least a v b (is_source h) = omega (arith, ap least h, unlasting)
  offset_least a v b (chain c) = chain_offset least well.shape leasts c (offset_found well posed a v b (chain c))

  -- So it can be taken away, and nothing is cut off.
  pub offset_extra : (a v : ℕ) → v < n → InAnchorSet (members es) a v → offset n least es a v + least a ≡ offset n no_leasts es a v
  unfolding offset
  offset_extra a v b i = omega (arith, offset_least a v b i)

  -- An offset in document 02's words: the heaviest walk, less the least that its first link adds.
  pub offset_heaviest : (a v : ℕ) → v < n → InAnchorSet (members es) a v → Offset least (UsableFrom (members es) a) a v (offset n least es a v)
  offset_heaviest a v b i =
      let O = offset_found well posed a v b i in
      record { p = O.p; q = O.q; span = O.span; attained = omega (arith, O.attained, offset_extra a v b i); bound = λ p q s. omega (arith, O.bound p q s, offset_extra a v b i) }

  -- The sums that are compared: with the least of b added, both sides are less by the least of a.
  pub overrides_extra : (a v b : ℕ) → v < n → InAnchorSet (members es) a v → overrides n least es a v b ≡ overrides n no_leasts es a v b
  unfolding overrides
  overrides_extra a v b h i =
      and_where (not (eqb b a) && in_anchor_set n es b v && in_anchor_set n es a b) (leb (offset n least es a v) (sum least)) (leb (offset n no_leasts es a v) (sum no_leasts)) compared
    where
      sum : (ℕ → ℕ) → ℕ
      sum l = offset n l es a b + l b + offset n l es b v

      compared : (not (eqb b a) && in_anchor_set n es b v && in_anchor_set n es a b) ≡ true → leb (offset n least es a v) (sum least) ≡ leb (offset n no_leasts es a v) (sum no_leasts)
      compared t =
          let s = and_split (not (eqb b a) && in_anchor_set n es b v) (in_anchor_set n es a b) t in
          let j : InAnchorSet (members es) b v = (in_anchor_set_iff well.shape b v).0 (and_split (not (eqb b a)) (in_anchor_set n es b v) s.0).1 in
          let k : InAnchorSet (members es) a b = (in_anchor_set_iff well.shape a b).0 s.1 in
          let e = offset_extra a v h i in
          let f = offset_extra a b (member_below well.shape h j) k in
          let g = offset_extra b v h j in
          same_test
          (leb (offset n least es a v) (sum least))
          (leb (offset n no_leasts es a v) (sum no_leasts))
          (λ r. le-leb (offset n no_leasts es a v) (sum no_leasts) (omega (arith, e, f, g, leb-true (offset n least es a v) (sum least) r)))
          (λ r. le-leb (offset n least es a v) (sum least) (omega (arith, e, f, g, leb-true (offset n no_leasts es a v) (sum no_leasts) r)))

  -- So the same members decide.
  pub decides_extra : (a v : ℕ) → v < n → decides n least es a v ≡ decides n no_leasts es a v
  unfolding decides
  decides_extra a v h =
      and_where
      (in_anchor_set n es a v)
      (not (any_below (overrides n least es a v) n))
      (not (any_below (overrides n no_leasts es a v) n))
      (λ t. ap not (any_below_same (overrides n least es a v) (overrides n no_leasts es a v) n (λ b c. overrides_extra a v b h ((in_anchor_set_iff well.shape a v).0 t))))

  -- Start times of durations d, by offsets from the end, are those of the extras x, by offsets from the start: each term is the same.
  module _ (d x : ℕ → ℕ) (parts : (a : ℕ) → a < n → d a ≡ least a + x a) where
    start_from_extra : (row : List ℕ) (v : ℕ) → v < n → start_from n least es d row v ≡ start_from n no_leasts es x row v
    unfolding start_from
    start_from_extra row zero b = refl
    start_from_extra row (suc v) b =
        largest_same
        (λ a. in_anchor_set n es a (suc v))
        (λ a. cell row a + d a + offset n least es a (suc v))
        (λ a. cell row a + x a + offset n no_leasts es a (suc v))
        n
        (λ a c t. omega (arith, parts a c, offset_extra a (suc v) b ((in_anchor_set_iff well.shape a (suc v)).0 t)))

    start_turns_extra : (k : ℕ) → start_turns n least es d k ≡ start_turns n no_leasts es x k
    unfolding start_turns
    start_turns_extra zero = refl
    start_turns_extra (suc k) =
        tabulate_same
        (start_from n least es d (start_turns n least es d k))
        (start_from n no_leasts es x (start_turns n no_leasts es x k))
        n
        (λ v b. start_from_extra (start_turns n least es d k) v b ∙ ap (λ (row : List ℕ). start_from n no_leasts es x row v) (start_turns_extra k))

    pub start_times_extra : start_times n least es d ≡ start_times n no_leasts es x
    unfolding start_times
    start_times_extra = start_turns_extra n
