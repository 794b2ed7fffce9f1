-- The parts that numbers stand for: map by map, and one more at a time.
use mathlib.Core.Path.{◌≡◌, sym, ap, ap₂, ◌∙◌}
use Rattle.std.specs.Prelude.{None, Some}
use mathlib.Core.Bool.{cond}
use mathlib.Core.Logic.{◌≢◌}
use mathlib.Core.List.{List, ◌∷◌, [], ◌++◌}
use Prim.Native.Nat.{ℕ, ◌+◌, ◌*◌, ◌/◌, ◌≤◌, ◌<◌}
use native.Mathlib.Omega.{arith}
use native.Mathlib.Numerals.{add-one}
use lib.ListN.{length, get_or, set, take}
use lib.Seq.{take-suc, take-suc-set}
use borrow.Author.Tests.{le-leb, lt-leb, ne_eqb}
use Rattle.definitions.specs.Basics.{test_bit}
use Rattle.definitions.specs.Bytes.{blank_operation, bound_from, delay_from, operation_map}
use Rattle.definitions.specs.Clashes.{blank_link}
use Rattle.definitions.specs.declared.Delay.TheVariants.{Fixed, Open}
use Rattle.definitions.specs.declared.Link.{Link}
use Rattle.definitions.specs.declared.Operation.{Operation}
use Rattle.laws.proofs.Bools.{cond_false, cond_true, neither}
use Rattle.laws.proofs.Tests.{tabulate_at, tabulate_length}
use Rattle.write_numbers.specs.Decoding.{end_from, record_at, record_from, records_in, step_at, step_from, steps_in, wrong_step}

-- ---- a step, by its map

pub step_zero : {m : ℕ} (ticks : ℕ) → m ≡ 0 → record { delay = Fixed 0; least = None } ≡ step_from m ticks
unfolding step_from operation_map test_bit delay_from bound_from
step_zero ticks e = sym (ap (λ (x : ℕ). step_from x ticks) e)

pub step_open : {m : ℕ} (ticks : ℕ) → m ≡ 1 → record { delay = Open; least = None } ≡ step_from m ticks
unfolding step_from operation_map test_bit delay_from bound_from
step_open ticks e = sym (ap (λ (x : ℕ). step_from x ticks) e)

pub step_fixed : {m : ℕ} (ticks : ℕ) → m ≡ 2 → record { delay = Fixed ticks; least = None } ≡ step_from m ticks
unfolding step_from operation_map test_bit delay_from bound_from
step_fixed ticks e = sym (ap (λ (x : ℕ). step_from x ticks) e)

pub step_least : {m : ℕ} (ticks : ℕ) → m ≡ 5 → record { delay = Open; least = Some ticks } ≡ step_from m ticks
unfolding step_from operation_map test_bit delay_from bound_from
step_least ticks e = sym (ap (λ (x : ℕ). step_from x ticks) e)

pub step_wrong : (m ticks : ℕ) → m ≢ 0 → m ≢ 1 → m ≢ 2 → m ≢ 5 → wrong_step ≡ step_from m ticks
unfolding step_from operation_map
step_wrong m ticks a b c d = sym (cond_false (record { delay = delay_from (test_bit m 0) (cond (test_bit m 1) ticks 0); least = bound_from (test_bit m 2) ticks }) wrong_step (neither (lt-leb m 2 (omega arith)) (ne_eqb m 5 d)))

-- ---- a record, by whether its map is known

pub record_wrong : (m i j least most gap latest : ℕ) → 31 < m → blank_link ≡ record_from m i j least most gap latest
unfolding record_from
record_wrong m i j least most gap latest h = sym (cond_false _ blank_link (lt-leb m 31 h))

module _ (m i j least most gap latest : ℕ) (h : m ≤ 31) where
  pub record_known : (l : Link) → l.from ≡ end_from i → l.to ≡ end_from j → l.sequencing ≡ test_bit m 0 → l.minimum ≡ bound_from (test_bit m 1) least → l.maximum ≡ bound_from (test_bit m 2) most → l.gap ≡ bound_from (test_bit m 3) gap → l.latest ≡ bound_from (test_bit m 4) latest → l ≡ record_from m i j least most gap latest
  unfolding record_from
  record_known l a b c d e f g =
      (λ k. record { from = a k; to = b k; sequencing = c k; minimum = d k; maximum = e k; gap = f k; latest = g k }) ∙ sym (cond_true _ blank_link (le-leb m 31 h))

-- ---- the parts of a list of numbers

-- The first k elements of two lists are the same; one more.
taken_more : {A : Type 0} (l m : List A) (k : ℕ) (x z : A) → k < length l → k < length m → take k l ≡ take k m → x ≡ get_or m k z → take (k + 1) (set l k x) ≡ take (k + 1) m
taken_more {A} l m k x z a b e f =
    ap (λ (i : ℕ). take i (set l k x)) (add-one k)
    ∙ take-suc-set l k x a
    ∙ ap₂ (λ (p : List A) (y : A). p ++ y ∷ []) e f
    ∙ sym (ap (λ (i : ℕ). take i m) (add-one k) ∙ take-suc m k z b)

pub steps_length : (numbers : List ℕ) → length (steps_in numbers) ≡ length numbers / 2
unfolding steps_in
steps_length numbers = tabulate_length (step_at numbers) (length numbers / 2)

pub records_length : (numbers : List ℕ) → length (records_in numbers) ≡ length numbers / 7
unfolding records_in
records_length numbers = tabulate_length (record_at numbers) (length numbers / 7)

pub steps_more : (numbers : List ℕ) (steps : List Operation) (k : ℕ) (o : Operation) → k < length steps → 2 * k + 2 ≤ length numbers → take k steps ≡ take k (steps_in numbers) → o ≡ step_at numbers k → take (k + 1) (set steps k o) ≡ take (k + 1) (steps_in numbers)
unfolding steps_in
steps_more numbers steps k o a b e f =
    taken_more steps (steps_in numbers) k o blank_operation a (omega (arith, steps_length numbers)) e (f ∙ sym (tabulate_at (step_at numbers) (length numbers / 2) k blank_operation (omega arith)))

pub records_more : (numbers : List ℕ) (links : List Link) (k : ℕ) (l : Link) → k < length links → 7 * k + 7 ≤ length numbers → take k links ≡ take k (records_in numbers) → l ≡ record_at numbers k → take (k + 1) (set links k l) ≡ take (k + 1) (records_in numbers)
unfolding records_in
records_more numbers links k l a b e f =
    taken_more links (records_in numbers) k l blank_link a (omega (arith, records_length numbers)) e (f ∙ sym (tabulate_at (record_at numbers) (length numbers / 7) k blank_link (omega arith)))
