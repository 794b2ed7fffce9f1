-- Lists of durations: what refusal 13 leaves, and lists made of given delays.
use mathlib.Core.Path.{◌≡◌, refl, sym, ap, fun_ext, ◌∙◌}
use mathlib.Core.Bool.{false}
use mathlib.Core.Logic.{◌⊎◌, inl, inr, ◌≢◌, ◌↔◌}
use mathlib.Core.List.{List}
use Prim.Native.Nat.{ℕ, zero, suc, ◌+◌, ◌≤◌, ◌<◌}
use native.Mathlib.Omega.{arith}
use native.Mathlib.Decide.{dec_lt}
use Rattle.definitions.specs.Limits.{most_extra, most_ticks}
use Rattle.definitions.specs.Basics.{tabulate}
use Rattle.definitions.specs.Bytes.{Records}
use Rattle.definitions.specs.Links.{delay_at, Respects}
use Rattle.definitions.specs.Plan.{delay_limit, delays_wrong, delays}
use Rattle.definitions.specs.Answers.{count_of, leasts_of}
use Rattle.definitions.specs.declared.Delay.{Delay}
use Rattle.definitions.specs.declared.Delay.TheVariants.{Open, Fixed}
use Rattle.laws.proofs.Bools.{same_or_not}
use Rattle.laws.proofs.Tests.{tabulate_length, tabulate_at, tabulate_past}
use Rattle.theory.specs.Graphs.{sole_delay}
use Rattle.theory.proofs.DelayLimits.{least_open, least_past, least_source, limit_fixed, limit_open, list_most, list_respects, list_respects_at, list_within, source_zero, within_list}
use Rattle.theory.proofs.SoleDelays.{sole_delay_source, sole_delay_other, sole_delay_limit}
use Rattle.demands.specs.Demands.{Durations, IsDelayList, WithinLimits, extras}

-- The list in which the open step a takes a long time past its least, and every other its least; for a = 0, each takes its least.
abbrev sole_entry : Records → ℕ → ℕ → ℕ
sole_entry q a i = sole_delay most_extra a i + leasts_of q i

abbrev pub sole_list : Records → ℕ → List ℕ
sole_list q a = tabulate (sole_entry q a) (count_of q)

module _ (q : Records) (a : ℕ) (b : a < count_of q) where
  sole_at : (i : ℕ) → delays (sole_list q a) i ≡ sole_delay most_extra a i + leasts_of q i
  sole_at i = go (dec_lt i (count_of q))
    where
      go : Dec (i < count_of q) → delays (sole_list q a) i ≡ sole_delay most_extra a i + leasts_of q i
      go (yes c) = tabulate_at (sole_entry q a) (count_of q) i 0 c
      go (no c) = omega (arith, tabulate_past (sole_entry q a) (count_of q) i 0 (omega arith), sole_delay_other most_extra a i (λ e. omega arith), least_past q.steps i (omega arith))

  pub sole_respects : Respects q.steps (delays (sole_list q a))
  sole_respects i = omega (arith, sole_at i)

  pub sole_extras : extras q (delays (sole_list q a)) ≡ sole_delay most_extra a
  sole_extras = fun_ext (λ i. omega (arith, sole_at i))

  pub sole_allowed : ((i : ℕ) → leasts_of q i ≤ most_ticks) → (a ≡ 0) ⊎ (delay_at q.steps a ≡ Open) → IsDelayList q (sole_list q a)
  sole_allowed few lasts = record { size = tabulate_length (sole_entry q a) (count_of q); within = within_list q.steps (sole_list q a) (λ i c y. (omega (arith, sole_at i), go i (least_limit i) (same_or_not i a) (same_or_not a 0) lasts)) }
    where
      -- A least is within the limit of its step.
      least_limit : (i : ℕ) → leasts_of q i ≤ delay_limit i (delay_at q.steps i)
      least_limit i = by (dec_lt 0 (leasts_of q i))
        where
          by : Dec (0 < leasts_of q i) → leasts_of q i ≤ delay_limit i (delay_at q.steps i)
          by (no z) = omega arith
          by (yes l) = let r = least_open q.steps i l in omega (arith, few i, limit_open i (delay_at q.steps i) r.0 r.1)

      go : (i : ℕ) → leasts_of q i ≤ delay_limit i (delay_at q.steps i) → (i ≡ a) ⊎ (i ≢ a) → (a ≡ 0) ⊎ (a ≢ 0) → (a ≡ 0) ⊎ (delay_at q.steps a ≡ Open) → delays (sole_list q a) i ≤ delay_limit i (delay_at q.steps i)
      go i l (inr e) z h = omega (arith, l, sole_at i, sole_delay_other most_extra a i e)
      go i l (inl e) (inl z) h = omega (arith, l, sole_at i, ap (sole_delay most_extra a) (e ∙ z), sole_delay_source most_extra a)
      go i l (inl e) (inr z) (inl h) = absurd (z h)
      go i l (inl e) (inr z) (inr h) =
          omega (arith, few i, sole_at i, sole_delay_limit most_extra a i, limit_open i (delay_at q.steps i) (λ y. z (sym e ∙ y)) (ap (delay_at q.steps) e ∙ h))

-- A list of durations gives durations that respect the leasts.
pub list_durations : (q : Records) → 1 ≤ count_of q → (list : List ℕ) → IsDelayList q list → Durations q (delays list)
list_durations q some list allowed = record { source = source_zero q.steps list some allowed.within; respects = λ i. go i (dec_lt i (count_of q)) }
  where
    go : (i : ℕ) → Dec (i < count_of q) → leasts_of q i ≤ delays list i
    go i (yes b) = list_respects q.steps list allowed.within (omega (arith, allowed.size)) i b
    go i (no b) = omega (arith, least_past q.steps i (omega arith))

-- Durations at the leasts.
pub least_durations : (q : Records) → Durations q (leasts_of q)
least_durations q = record { source = least_source q.steps; respects = λ i. omega arith }

-- The list for a = 0 is that of the leasts.
pub least_list : (q : Records) → 1 ≤ count_of q → delays (sole_list q 0) ≡ leasts_of q
unfolding sole_delay
least_list q some = fun_ext (λ i. omega (arith, sole_at q 0 some i))

pub least_extras : (q : Records) → extras q (leasts_of q) ≡ (λ a. 0)
least_extras q = fun_ext (λ i. omega arith)

-- Within the limits in document 01's words: by the step's number and its delay.
pub limits_meant : (q : Records) → 1 ≤ count_of q → (list : List ℕ) → (delays_wrong q.steps list ≡ false) ↔ WithinLimits q list
limits_meant q some list = (said, λ W. within_list q.steps list (λ i b c. (W.respects i b c, meant W i b (delay_at q.steps i) refl)))
  where
    said : delays_wrong q.steps list ≡ false → WithinLimits q list
    said h = record {
      most = λ i b. list_most q.steps list h i b;
      source = source_zero q.steps list some h;
      fixed = λ i ticks b e. omega (arith, list_within q.steps list h i b, ap (delay_limit i) e, limit_fixed i ticks);
      respects = λ i b c. list_respects_at q.steps list h i b c;
    }

    meant : WithinLimits q list → (i : ℕ) → i < count_of q → (x : Delay) → delay_at q.steps i ≡ x → delays list i ≤ delay_limit i (delay_at q.steps i)
    meant W i b (Fixed ticks) e = omega (arith, W.fixed i ticks b e)
    meant W zero b Open e = omega (arith, W.source)
    meant W (suc i) b Open e = omega (arith, W.most (suc i) b, limit_open (suc i) (delay_at q.steps (suc i)) (λ z. omega arith) e)
