-- Lists of durations that are not refused (13): each entry is within the limit of its step.
use mathlib.Core.Path.{◌≡◌, refl, ap, ◌∙◌}
use Rattle.std.specs.Prelude.{Option}
use mathlib.Core.Bool.{Bool, true, false, ◌&&◌}
use mathlib.Core.Logic.{◌≢◌}
use mathlib.Core.List.{List}
use Prim.Native.Nat.{ℕ, zero, suc, ◌≤◌, ◌<◌}
use native.Mathlib.Omega.{arith}
use native.Mathlib.Decide.{dec_lt}
use lib.Dec.{ltb}
use lib.ListN.{length, get_or, get_or-eq_default}
use borrow.Author.Tests.{lt-ltb, le-ltb, ltb-false, ltb-true}
use Rattle.definitions.specs.Limits.{most_duration}
use Rattle.definitions.specs.Bytes.{blank_operation}
use Rattle.definitions.specs.Links.{delay_at, least_with, least_at}
use Rattle.definitions.specs.Plan.{delay_limit, delay_wrong, delays_wrong, delays}
use Rattle.definitions.specs.declared.Delay.{Delay}
use Rattle.definitions.specs.declared.Delay.TheVariants.{Open, Fixed}
use Rattle.definitions.specs.declared.Operation.{Operation}
use Rattle.laws.proofs.Bools.{and_split, and_join, both_ways, neither, not_passing, or_neither}
use Rattle.laws.proofs.Tests.{any_below_none, none_any_below}

-- An entry is right exactly if it is at least its step's least and at most its limit.
entry_right : (os : List Operation) (list : List ℕ) (i : ℕ) → delay_wrong os list i ≡ false → (least_at os i ≤ delays list i) × (delays list i ≤ delay_limit i (delay_at os i))
unfolding delay_wrong
entry_right os list i h =
    let r = (or_neither (ltb (delay_limit i (delay_at os i)) (get_or list i 0)) (ltb (get_or list i 0) (least_at os i))).0 h in
    (ltb-false (get_or list i 0) (least_at os i) r.1, ltb-false (delay_limit i (delay_at os i)) (get_or list i 0) r.0)

right_entry : (os : List Operation) (list : List ℕ) (i : ℕ) → least_at os i ≤ delays list i → delays list i ≤ delay_limit i (delay_at os i) → delay_wrong os list i ≡ false
unfolding delay_wrong
right_entry os list i l h = neither (le-ltb (delay_limit i (delay_at os i)) (get_or list i 0) h) (le-ltb (get_or list i 0) (least_at os i) l)

-- A list is not refused exactly if each of its first entries is right; one that is not there is not judged.
module _ (os : List Operation) (list : List ℕ) where
  abbrev wrong_at : ℕ → Bool
  wrong_at j = ltb j (length list) && delay_wrong os list j

  listed_right : delays_wrong os list ≡ false → (i : ℕ) → i < length os → i < length list → delay_wrong os list i ≡ false
  unfolding delays_wrong
  listed_right h i b c = not_passing (delay_wrong os list i) (λ t. both_ways (and_join (lt-ltb i (length list) c) t) (any_below_none wrong_at (length os) h i b))

  pub list_within : delays_wrong os list ≡ false → (i : ℕ) → i < length os → delays list i ≤ delay_limit i (delay_at os i)
  list_within h i b = go (dec_lt i (length list))
    where
      go : Dec (i < length list) → delays list i ≤ delay_limit i (delay_at os i)
      go (no c) = omega (arith, get_or-eq_default list 0 {n = i} (omega arith))
      go (yes c) = (entry_right os list i (listed_right h i b c)).1

  -- No entry that is there is below its least; so where the list has an entry for each step, none is.
  pub list_respects_at : delays_wrong os list ≡ false → (i : ℕ) → i < length os → i < length list → least_at os i ≤ delays list i
  list_respects_at h i b c = (entry_right os list i (listed_right h i b c)).0

  pub list_respects : delays_wrong os list ≡ false → length os ≤ length list → (i : ℕ) → i < length os → least_at os i ≤ delays list i
  list_respects h enough i b = list_respects_at h i b (omega arith)

  pub within_list : ((i : ℕ) → i < length os → i < length list → (least_at os i ≤ delays list i) × (delays list i ≤ delay_limit i (delay_at os i))) → delays_wrong os list ≡ false
  unfolding delays_wrong
  within_list h = none_any_below wrong_at (length os) (λ i b. not_passing (wrong_at i) (λ t. wrong i b (and_split (ltb i (length list)) (delay_wrong os list i) t)))
    where
      wrong : (i : ℕ) → i < length os → (ltb i (length list) ≡ true) × (delay_wrong os list i ≡ true) → ⊥
      wrong i b t = let r = h i b (ltb-true i (length list) t.0) in both_ways t.1 (right_entry os list i r.0 r.1)

-- The limits: 0 for step 0 and a fixed step, and for an open one the longest duration.
limit_source : (x : Delay) → delay_limit 0 x ≡ 0
unfolding delay_limit
limit_source Open = refl
limit_source (Fixed t) = refl

limit_most : (i : ℕ) (x : Delay) → delay_limit i x ≤ most_duration
unfolding delay_limit
limit_most zero Open = omega arith
limit_most (suc i) Open = omega arith
limit_most i (Fixed t) = omega arith

pub limit_fixed : (i ticks : ℕ) → delay_limit i (Fixed ticks) ≡ 0
unfolding delay_limit
limit_fixed zero ticks = refl
limit_fixed (suc i) ticks = refl

pub limit_open : (i : ℕ) (x : Delay) → i ≢ 0 → x ≡ Open → delay_limit i x ≡ most_duration
unfolding delay_limit
limit_open zero x z e = absurd (z refl)
limit_open (suc i) Open z e = refl
limit_open (suc i) (Fixed t) z e = let c : ◌≡◌ {A = ℕ} 0 1 = cc in absurd (omega arith)

-- Only an open step other than 0 has a least, and it is no more than its field says.
least_with_source : (x : Delay) (b : Option ℕ) → least_with 0 x b ≡ 0
unfolding least_with
least_with_source Open b = refl
least_with_source (Fixed t) b = refl

least_with_fixed : (i t : ℕ) (b : Option ℕ) → least_with i (Fixed t) b ≡ 0
unfolding least_with
least_with_fixed zero t b = refl
least_with_fixed (suc i) t b = refl

pub least_source : (os : List Operation) → least_at os 0 ≡ 0
unfolding least_at
least_source os = least_with_source (delay_at os 0) (get_or os 0 blank_operation).least

pub least_fixed : (os : List Operation) (i ticks : ℕ) → delay_at os i ≡ Fixed ticks → least_at os i ≡ 0
unfolding least_at
least_fixed os i ticks h = ap (λ (x : Delay). least_with i x (get_or os i blank_operation).least) h ∙ least_with_fixed i ticks (get_or os i blank_operation).least

-- What does not exist has none.
pub least_past : (os : List Operation) (i : ℕ) → length os ≤ i → least_at os i ≡ 0
unfolding delay_at
least_past os i h = least_fixed os i 0 (ap (λ (o : Operation). o.delay) (get_or-eq_default os blank_operation h))

-- A step that has a least is open and not step 0.
pub least_open : (os : List Operation) (i : ℕ) → 0 < least_at os i → (i ≢ 0) × (delay_at os i ≡ Open)
least_open os i h = (λ e. omega (arith, h, ap (least_at os) e, least_source os), go (delay_at os i) refl)
  where
    go : (x : Delay) → delay_at os i ≡ x → delay_at os i ≡ Open
    go Open e = e
    go (Fixed t) e = absurd (omega (arith, h, least_fixed os i t e))

pub source_zero : (os : List Operation) (list : List ℕ) → 1 ≤ length os → delays_wrong os list ≡ false → delays list 0 ≡ 0
source_zero os list some h = omega (arith, list_within os list h 0 some, limit_source (delay_at os 0))

pub list_most : (os : List Operation) (list : List ℕ) → delays_wrong os list ≡ false → (i : ℕ) → i < length os → delays list i ≤ most_duration
list_most os list h i b = omega (arith, list_within os list h i b, limit_most i (delay_at os i))
