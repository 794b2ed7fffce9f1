-- Filling a list with a count of each step, and their sum: what holds at each turn of the loop. Assumes nothing.
use mathlib.Core.Path.{◌≡◌, refl, sym, ap, ap₂, ◌∙◌}
use mathlib.Core.List.{List}
use Prim.Native.Nat.{ℕ, ◌+◌, ◌*◌, ◌≤◌, ◌<◌}
use native.Mathlib.Omega.{arith}
use lib.ListN.{length, set, length-set}
use Rattle.definitions.specs.Basics.{sum_below}
use Rattle.definitions.specs.Limits.{most_ticks}
use Rattle.laws.proofs.Counts.{sum_below_more, sum_below_none}
use Rattle.laws.proofs.Fronts.{laid, laid_none, laid_more}
use Rattle.price_counts.specs.Plans.{Counted, Filled}

-- The first k counts stand at the front, the others are as lent, and the sum of the first k is small.
pub record Filling (f : ℕ → ℕ) (n k : ℕ) (lent list : List ℕ) (total : ℕ) : Type 0 where
  pub within : k ≤ n
  pub long : length list ≡ length lent
  pub front : list ≡ laid f k lent
  pub sum : total ≡ sum_below f k
  pub small : total ≤ most_ticks * k

module _ {f : ℕ → ℕ} {n : ℕ} {lent : List ℕ} where
  pub filling_none : Filling f n 0 lent lent 0
  filling_none = record { within = omega arith; long = refl; front = laid_none f lent; sum = sym (sum_below_none f); small = omega arith }

  pub filling_more : {k : ℕ} {list : List ℕ} {total count : ℕ} → Filling f n k lent list total → Counted (f k) count → k < n → n ≤ length lent → Filling f n (k + 1) lent (set list k count) (total + count)
  filling_more {k} {list} {total} {count} F c h room =
      record {
        within = omega arith;
        long = length-set list k count ∙ F.long;
        front = laid_more f k lent list count 0 (omega arith) F.front c.value;
        sum = ap₂ (λ (s t : ℕ). s + t) F.sum c.value ∙ sym (sum_below_more f k);
        small = omega (arith, F.small, c.small);
      }

  pub filling_all : {k : ℕ} {list : List ℕ} {total : ℕ} → Filling f n k lent list total → n ≤ k → Filled f n lent total list
  filling_all {k} {list} {total} F h =
      let e : k ≡ n = omega (arith, F.within) in
      record { list = F.front ∙ ap (λ (j : ℕ). laid f j lent) e; total = F.sum ∙ ap (sum_below f) e }
