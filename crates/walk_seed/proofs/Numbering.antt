-- Numbers given to the members of a map, the smallest first.
use mathlib.Core.Path.{◌≡◌, sym, ap, ◌∙◌}
use mathlib.Core.Bool.{Bool, true, cond, not, ◌&&◌, ◌||◌, false≢true}
use mathlib.Core.Logic.{◌⊎◌, inl, inr, ◌≢◌}
use mathlib.Core.List.{List}
use Prim.Native.Nat.{ℕ, ◌+◌, ◌≤◌, ◌<◌}
use native.Mathlib.Numerals.{add-one}
use native.Mathlib.Omega.{arith}
use native.Mathlib.Decide.{dec_lt}
use lib.Dec.{eqb}
use lib.ListN.{length, get_or, set, length-set}
use lib.Seq.{get_or-set_same, get_or-set_other}
use borrow.Author.Tests.{eq-eqb, ne_eqb}
use Rattle.data_bits.specs.Members.{Lowest}
use Rattle.definitions.specs.Basics.{any_below, test_bit}
use Rattle.laws.proofs.Bools.{and_join, and_split, both_ways, cond_false, cond_true, same_or_not}
use Rattle.laws.proofs.Maps.{test_zero}
use Rattle.data_relations.specs.Rows.{row_bit}
use Rattle.walk_edge.specs.Columns.{Numbers}
use Rattle.walk_seed.specs.Seeds.{Blank, Numbered}

-- The union of rows, one row after another.
pub union_none : (sets : List ℕ) (a : ℕ) → test_bit 0 a ≡ any_below (λ v. row_bit sets v a) 0
unfolding any_below
union_none sets a = test_zero a

pub union_more : (sets : List ℕ) (v all all' a : ℕ) → test_bit all a ≡ any_below (λ w. row_bit sets w a) v → test_bit all' a ≡ (test_bit all a || row_bit sets v a) → test_bit all' a ≡ any_below (λ w. row_bit sets w a) (v + 1)
unfolding any_below
union_more sets v all all' a old new = rw add-one (new ∙ ap (λ (t : Bool). t || row_bit sets v a) old)

-- A member that is left after the smallest has gone is another one.
pub still_left : (left left' i : ℕ) → ((j : ℕ) → test_bit left' j ≡ (test_bit left j && not (eqb j i))) → (j : ℕ) → test_bit left' j ≡ true → (test_bit left j ≡ true) × (j ≢ i)
still_left left left' i leaves j h =
    let p = and_split (test_bit left j) (not (eqb j i)) (sym (leaves j) ∙ h) in
    (p.0, λ e. false≢true (sym (ap not (eq-eqb j i e)) ∙ p.1))

pub left_still : (left left' i : ℕ) → ((j : ℕ) → test_bit left' j ≡ (test_bit left j && not (eqb j i))) → (j : ℕ) → test_bit left j ≡ true → j ≢ i → test_bit left' j ≡ true
left_still left left' i leaves j h o = leaves j ∙ and_join h (ap not (ne_eqb j i o))

-- The members that are not left have the numbers below the width; no other step has a number. What is left lies at the width or above, so there are at most 64 numbers.
pub record Numbering (all left width : ℕ) (number : List ℕ) : Type 0 where
  pub anchor : ℕ → ℕ
  pub numbers : Numbers width number anchor
  pub long : length number ≡ 64
  pub few : width ≤ 64
  pub either : (v : ℕ) → v < 64 → (get_or number v 0 < width) ⊎ (get_or number v 0 ≡ 64)
  pub passed : (a : ℕ) → test_bit all a ≡ true → (test_bit left a ≡ true) ⊎ (get_or number a 0 < width)
  pub ahead : (a : ℕ) → test_bit left a ≡ true → width ≤ a
  pub fresh : (a : ℕ) → test_bit left a ≡ true → a < 64 → get_or number a 0 ≡ 64
  pub low : (v : ℕ) → v < 64 → get_or number v 0 < width → get_or number v 0 ≤ v

pub numbering_start : (all : ℕ) {number : List ℕ} → Blank number → Numbering all all 0 number
numbering_start all B =
    record {
      anchor = λ k. 0;
      numbers = record { there = λ k b. absurd (omega arith); inside = λ k b. absurd (omega arith); back = λ v b c. absurd (omega arith) };
      long = B.long;
      few = omega arith;
      either = λ v b. inr (B.none v b);
      passed = λ a h. inl h;
      ahead = λ a h. omega arith;
      fresh = λ a h b. B.none a b;
      low = λ v b c. absurd (omega arith);
    }

-- The smallest member left gets the next number.
module _ {all left width i : ℕ} {number : List ℕ} (left' : ℕ) (least : Lowest left i) (leaves : (j : ℕ) → test_bit left' j ≡ (test_bit left j && not (eqb j i))) (N : Numbering all left width number) where
  next_small : width ≤ i
  next_small = N.ahead i least.member

  was : get_or number i 0 ≡ 64
  was = N.fresh i least.member least.below

  here : get_or (set number i width) i 0 ≡ width
  here = get_or-set_same number i width 0 (omega (arith, N.long, least.below))

  beside : (v : ℕ) → v ≢ i → get_or (set number i width) v 0 ≡ get_or number v 0
  beside v h = get_or-set_other number i v width 0 h

  abbrev anchor' : ℕ → ℕ
  anchor' k = cond (eqb k width) i (N.anchor k)

  anchor_new : (k : ℕ) → k ≡ width → anchor' k ≡ i
  anchor_new k h = cond_true i (N.anchor k) (eq-eqb k width h)

  anchor_old : (k : ℕ) → k ≢ width → anchor' k ≡ N.anchor k
  anchor_old k h = cond_false i (N.anchor k) (ne_eqb k width h)

  apart : (k : ℕ) → k < width → N.anchor k ≢ i
  apart k b e = omega (arith, N.numbers.there k b, ap (λ (x : ℕ). get_or number x 0) e, was, N.few)

  there : (k : ℕ) → k < width + 1 → (k ≡ width) ⊎ (k ≢ width) → get_or (set number i width) (anchor' k) 0 ≡ k
  there k b (inl h) = ap (λ (x : ℕ). get_or (set number i width) x 0) (anchor_new k h) ∙ here ∙ sym h
  there k b (inr h) = ap (λ (x : ℕ). get_or (set number i width) x 0) (anchor_old k h) ∙ beside (N.anchor k) (apart k (omega arith)) ∙ N.numbers.there k (omega arith)

  inside : (k : ℕ) → k < width + 1 → (k ≡ width) ⊎ (k ≢ width) → anchor' k < 64
  inside k b (inl h) = omega (arith, anchor_new k h, least.below)
  inside k b (inr h) = omega (arith, anchor_old k h, N.numbers.inside k (omega arith))

  older : (v : ℕ) → v < 64 → get_or number v 0 < width + 1 → get_or number v 0 < width
  older v b c = by (N.either v b)
    where
      by : (get_or number v 0 < width) ⊎ (get_or number v 0 ≡ 64) → get_or number v 0 < width
      by (inl h) = h
      by (inr h) = absurd (omega (arith, next_small, least.below))

  back : (v : ℕ) → v < 64 → get_or (set number i width) v 0 < width + 1 → (v ≡ i) ⊎ (v ≢ i) → anchor' (get_or (set number i width) v 0) ≡ v
  back v b c (inl h) = anchor_new _ (ap (λ (x : ℕ). get_or (set number i width) x 0) h ∙ here) ∙ sym h
  back v b c (inr h) =
      let o = older v b (omega (arith, beside v h)) in
      ap anchor' (beside v h) ∙ anchor_old (get_or number v 0) (λ e. omega arith) ∙ N.numbers.back v b o

  either : (v : ℕ) → v < 64 → (v ≡ i) ⊎ (v ≢ i) → (get_or (set number i width) v 0 < width + 1) ⊎ (get_or (set number i width) v 0 ≡ 64)
  either v b (inl h) = inl (omega (arith, ap (λ (x : ℕ). get_or (set number i width) x 0) h, here))
  either v b (inr h) = by (N.either v b)
    where
      by : (get_or number v 0 < width) ⊎ (get_or number v 0 ≡ 64) → (get_or (set number i width) v 0 < width + 1) ⊎ (get_or (set number i width) v 0 ≡ 64)
      by (inl k) = inl (omega (arith, beside v h))
      by (inr k) = inr (beside v h ∙ k)

  passed : (a : ℕ) → (a ≡ i) ⊎ (a ≢ i) → (test_bit left a ≡ true) ⊎ (get_or number a 0 < width) → (test_bit left' a ≡ true) ⊎ (get_or (set number i width) a 0 < width + 1)
  passed a (inl h) p = inr (omega (arith, ap (λ (x : ℕ). get_or (set number i width) x 0) h, here))
  passed a (inr h) (inl p) = inl (left_still left left' i leaves a p h)
  passed a (inr h) (inr p) = inr (omega (arith, beside a h))

  ahead : (a : ℕ) → test_bit left a ≡ true → a ≢ i → Dec (a < i) → width + 1 ≤ a
  ahead a h o (yes b) = absurd (both_ways h (least.least a b))
  ahead a h o (no b) = omega (arith, next_small)

  low : (v : ℕ) → v < 64 → get_or (set number i width) v 0 < width + 1 → (v ≡ i) ⊎ (v ≢ i) → get_or (set number i width) v 0 ≤ v
  low v b c (inl h) = omega (arith, ap (λ (x : ℕ). get_or (set number i width) x 0) h, here, next_small)
  low v b c (inr h) = omega (arith, beside v h, N.low v b (older v b (omega (arith, beside v h))))

  pub numbering_more : Numbering all left' (width + 1) (set number i width)
  numbering_more =
      record {
        anchor = anchor';
        numbers = record { there = λ k b. there k b (same_or_not k width); inside = λ k b. inside k b (same_or_not k width); back = λ v b c. back v b c (same_or_not v i) };
        long = length-set number i width ∙ N.long;
        few = omega (arith, next_small, least.below);
        either = λ v b. either v b (same_or_not v i);
        passed = λ a h. passed a (same_or_not a i) (N.passed a h);
        ahead = λ a h. let p = still_left left left' i leaves a h in ahead a p.0 p.1 (dec_lt a i);
        fresh = λ a h b. let p = still_left left left' i leaves a h in beside a p.1 ∙ N.fresh a p.0 b;
        low = λ v b c. low v b c (same_or_not v i);
      }

pub numbering_end : {all left width : ℕ} {number : List ℕ} → left ≡ 0 → Numbering all left width number → Numbered all width number
numbering_end {all} {left} {width} {number} z N = record { anchor = N.anchor; numbers = N.numbers; few = N.few; listed = λ a h. by a (N.passed a h); low = λ a b h. N.low a b (by a (N.passed a h)) }
  where
    by : (a : ℕ) → (test_bit left a ≡ true) ⊎ (get_or number a 0 < width) → get_or number a 0 < width
    by a (inl h) = absurd (both_ways h (ap (λ (x : ℕ). test_bit x a) z ∙ test_zero a))
    by a (inr h) = h
