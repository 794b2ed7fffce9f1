-- Places inside a plan, and what one entry more adds to the largest offset and to the comparisons. Assumes nothing.
use mathlib.Core.Path.{◌≡◌, refl, sym, ap, ap₂, ◌∙◌}
use mathlib.Core.Bool.{true, false, cond, not}
use mathlib.Core.List.{List, [], ◌∷◌}
use Prim.Native.Nat.{ℕ, zero, suc, ◌+◌, ◌*◌, ◌≤◌, ◌<◌, max}
use native.Mathlib.Omega.{arith}
use native.Mathlib.Nat.{not-suc-le-zero, le_of_suc-le-suc}
use native.Mathlib.Numerals.{add-one}
use lib.Dec.{eqb, leb}
use lib.ListN.{length, get_or}
use Rattle.definitions.specs.Basics.{any_below, largest, sum_below, test_bit}
use Rattle.definitions.specs.Limits.{longest_table, most_steps, register_entries}
use Rattle.definitions.specs.Plan.{undecided}
use Rattle.definitions.specs.Price.{comparisons_of, entry_at, largest_offset, registers_of, stands_at, too_large}
use Rattle.laws.proofs.Bools.{cond_true, cond_false}
use Rattle.laws.proofs.Counts.{row_end, square_small, sum_below_more}
use Rattle.price_counts.specs.Plans.{is_large}

-- Where an entry stands.
pub place_inside : (n v a : ℕ) → v < n → a < n → v * n + a < n * n
place_inside n v a h b = omega (arith, row_end n v h)

pub place_small : (n v a : ℕ) → n ≤ most_steps → v < n → a < n → v * n + a < longest_table
place_small n v a few h b = omega (arith, place_inside n v a h b, square_small n few)

-- An element that is there is the same whatever stands for those that are not. Induction on the list.
same_there : (l : List ℕ) (i y z : ℕ) → i < length l → get_or l i y ≡ get_or l i z
same_there [] i y z b = absurd (not-suc-le-zero b)
same_there (x ∷ l) zero y z b = refl
same_there (x ∷ l) (suc i) y z b = same_there l i y z (le_of_suc-le-suc b)

pub entry_read : (n : ℕ) (plan : List ℕ) (a v : ℕ) → v < n → a < n → n * n ≤ length plan → get_or plan (v * n + a) 0 ≡ entry_at n plan a v
unfolding entry_at
entry_read n plan a v h b long = same_there plan (v * n + a) 0 undecided (omega (arith, place_inside n v a h b))

-- The largest offset over the rows passed: none, one more, all.
module _ (n : ℕ) (plan : List ℕ) (a : ℕ) where
  abbrev pub most_of : ℕ → ℕ
  most_of v = largest (stands_at n plan a) (entry_at n plan a) v

  pub most_none : 0 ≡ most_of 0
  unfolding largest
  most_none = refl

  pub most_more : (v most x y z : ℕ) → most ≡ most_of v → x ≡ entry_at n plan a v → y ≡ cond (not (eqb x undecided)) x 0 → z ≡ max most y → z ≡ most_of (v + 1)
  unfolding largest stands_at
  most_more v most x y z m e o l = l ∙ ap₂ max m (o ∙ ap (λ (w : ℕ). cond (not (eqb w undecided)) w 0) e) ∙ sym (ap most_of (add-one v))

  pub most_all : (v most : ℕ) → v ≡ n → most ≡ most_of v → most ≡ largest_offset n plan a
  unfolding largest_offset
  most_all v most e m = m ∙ ap most_of e

-- The comparisons of v over the columns passed.
module _ (n : ℕ) (plan : List ℕ) (v : ℕ) where
  abbrev pub compared : ℕ → ℕ
  compared k = sum_below (λ a. cond (stands_at n plan a v) 1 0) k

  pub compared_none : 0 ≡ compared 0
  unfolding sum_below
  compared_none = refl

  pub compared_more : (a count x y : ℕ) → count ≡ compared a → x ≡ entry_at n plan a v → y ≡ cond (not (eqb x undecided)) 1 0 → count + y ≡ compared (a + 1)
  unfolding stands_at
  compared_more a count x y c e o = ap₂ (λ (s t : ℕ). s + t) c (o ∙ ap (λ (w : ℕ). cond (not (eqb w undecided)) 1 0) e) ∙ sym (sum_below_more (λ a. cond (stands_at n plan a v) 1 0) a)

  pub compared_all : (a count : ℕ) → a ≡ n → count ≡ compared a → count ≡ comparisons_of n plan v
  unfolding comparisons_of
  compared_all a count e c = c ∙ ap compared e

-- An entry adds at most 1.
pub one_small : (x y : ℕ) → y ≡ cond (not (eqb x undecided)) 1 0 → y ≤ 1
one_small x y e = omega (arith, e, go (eqb x undecided))
  where
    go : (t : _) → cond (not t) 1 0 ≤ 1
    go true = omega arith
    go false = omega arith

-- Registers of a step that is open, and of one that is not; and 19 for them.
module _ (unbounded : ℕ) (n : ℕ) (plan : List ℕ) (a : ℕ) where
  pub registers_open : (entries : List ℕ) → test_bit unbounded a ≡ true → get_or entries (largest_offset n plan a) 0 ≡ registers_of (test_bit unbounded) entries n plan a
  unfolding registers_of
  registers_open entries h = sym (cond_true (get_or entries (largest_offset n plan a) 0) 0 h)

  pub registers_fixed : (entries : List ℕ) → test_bit unbounded a ≡ false → 0 ≡ registers_of (test_bit unbounded) entries n plan a
  unfolding registers_of
  registers_fixed entries h = sym (cond_false (get_or entries (largest_offset n plan a) 0) 0 h)

  pub large_open : (m : ℕ) → test_bit unbounded a ≡ true → m ≡ largest_offset n plan a → leb register_entries m ≡ is_large unbounded n plan a
  unfolding is_large
  large_open m h e = rw (h, e)

  pub large_fixed : test_bit unbounded a ≡ false → false ≡ is_large unbounded n plan a
  unfolding is_large
  large_fixed h = rw h

pub large_some : (unbounded n : ℕ) (plan : List ℕ) → any_below (is_large unbounded n plan) n ≡ too_large (test_bit unbounded) n plan
unfolding too_large is_large
large_some unbounded n plan = refl
