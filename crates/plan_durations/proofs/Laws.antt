-- Lists of delays judged by a map of the open steps and their leasts. Assumes nothing.
use mathlib.Core.Path.{◌≡◌, refl, sym, ap, ap₂, ◌∙◌}
use mathlib.Core.Bool.{Bool, true, false, cond, not, ◌&&◌, ◌||◌, and-false, or-false}
use mathlib.Core.List.{List}
use Prim.Native.Nat.{ℕ, zero, suc, min, ◌<◌, ◌≤◌}
use native.Mathlib.Omega.{arith}
use native.Mathlib.Decide.{dec_lt}
use lib.Dec.{eqb, ltb}
use lib.ListN.{length, get_or}
use borrow.Author.Tests.{lt-ltb, le-ltb, ne_eqb}
use Rattle.definitions.specs.Limits.{most_duration}
use Rattle.definitions.specs.Basics.{any_below, test_bit}
use Rattle.definitions.specs.Links.{delay_at, is_open, least_at}
use Rattle.definitions.specs.Plan.{delay_limit, delay_wrong, delays_wrong}
use Rattle.definitions.specs.declared.Delay.{Delay}
use Rattle.definitions.specs.declared.Delay.TheVariants.{Open, Fixed}
use Rattle.definitions.specs.declared.Operation.{Operation}
use Rattle.laws.proofs.Bools.{or_right}
use Rattle.laws.proofs.Searches.{any_below_same}
use Rattle.laws.proofs.Tests.{any_below_none, none_any_below}
use Rattle.data_edges.specs.Serial.{leasts_in}
use Rattle.read_steps.specs.Leaving.{unbounded_at}
use Rattle.plan_durations.specs.Delays.{Judged, entry_outside, outside}

-- The limit by the two cases of a delay; step 0 has 0 in both.
limit_by : (i : ℕ) (delay : Delay) → cond (not (eqb i 0) && is_open delay) most_duration 0 ≡ delay_limit i delay
unfolding delay_limit is_open
limit_by i (Fixed ticks) = ap (λ (t : Bool). cond t most_duration 0) (and-false (not (eqb i 0)))
limit_by zero Open = refl
limit_by (suc i) Open = rw (ne_eqb (suc i) 0 (λ e. absurd (omega arith))) refl

-- Entry by entry the limits and the leasts are the same.
entries_outside : (unbounded n : ℕ) (leasts list : List ℕ) (os : List Operation) → length os ≡ n → ((i : ℕ) → i < n → test_bit unbounded i ≡ unbounded_at os i) → ((i : ℕ) → i < n → leasts_in leasts i ≡ least_at os i)
    → any_below (entry_outside unbounded leasts list) n ≡ delays_wrong os list
unfolding entry_outside unbounded_at delays_wrong delay_wrong
entries_outside unbounded n leasts list os e h l =
    any_below_same (entry_outside unbounded leasts list) (λ i. ltb i (length list) && delay_wrong os list i) n
    (λ i b. ap₂ (λ (x y : ℕ). ltb i (length list) && (ltb x (get_or list i 0) || ltb (get_or list i 0) y)) (ap (λ (t : Bool). cond t most_duration 0) (h i b) ∙ limit_by i (delay_at os i)) (l i b))
    ∙ ap (any_below (λ i. ltb i (length list) && delay_wrong os list i)) (sym e)

pub judged : {list : List ℕ} {unbounded : ℕ} {leasts : List ℕ} {n : ℕ} {bad : Bool} → bad ≡ any_below (entry_outside unbounded leasts list) n → Judged list unbounded leasts n bad
judged {list} {unbounded} {leasts} {n} e = record { read = e; wrong = λ os l h m. e ∙ entries_outside unbounded n leasts list os l h m }

-- One delay: below the least it is outside, from the least on the limit alone decides.
pub below_least : (unbounded least i x : ℕ) → x < least → true ≡ outside unbounded least i x
below_least unbounded least i x h = sym (or_right (ltb (cond (test_bit unbounded i) most_duration 0) x) (lt-ltb x least h))

pub from_least : (unbounded least i x : ℕ) (opened : Bool) → least ≤ x → opened ≡ test_bit unbounded i → ltb (cond opened most_duration 0) x ≡ outside unbounded least i x
from_least unbounded least i x opened h e =
    ap (λ (t : Bool). ltb (cond t most_duration 0) x) e
    ∙ sym (ap (λ (t : Bool). ltb (cond (test_bit unbounded i) most_duration 0) x || t) (le-ltb x least h) ∙ or-false (ltb (cond (test_bit unbounded i) most_duration 0) x))

module _ (unbounded : ℕ) (leasts list : List ℕ) where
  outside_past : (i : ℕ) → length list ≤ i → entry_outside unbounded leasts list i ≡ false
  unfolding entry_outside
  outside_past i h = rw (le-ltb i (length list) h) refl

  -- None of the first i entries, which are those of the first n that are there.
  pub none_outside : (i n : ℕ) → min n (length list) ≤ i → any_below (entry_outside unbounded leasts list) i ≡ false → any_below (entry_outside unbounded leasts list) n ≡ false
  none_outside i n h e = none_any_below (entry_outside unbounded leasts list) n (λ k b. go k b (dec_lt k i))
    where
      go : (k : ℕ) → k < n → Dec (k < i) → entry_outside unbounded leasts list k ≡ false
      go k b (yes l) = any_below_none (entry_outside unbounded leasts list) i e k l
      go k b (no l) = outside_past k (omega arith)

  pub outside_there : (i : ℕ) (t : Bool) → i < length list → outside unbounded (leasts_in leasts i) i (get_or list i 0) ≡ t → entry_outside unbounded leasts list i ≡ t
  unfolding entry_outside
  outside_there i t h e = rw (lt-ltb i (length list) h) e
