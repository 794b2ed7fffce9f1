-- The least of a step, and the leasts of the steps that are read, as numbers.
use mathlib.Core.Path.{◌≡◌, refl, sym, ap, ◌∙◌}
use Rattle.std.specs.Prelude.{None, Option}
use mathlib.Core.Logic.{inl, inr}
use mathlib.Core.List.{List, [], ◌∷◌, ◌++◌}
use Prim.Native.Nat.{ℕ, zero, suc, ◌≤◌, ◌<◌, ◌+◌, ◌*◌}
use native.Mathlib.Omega.{arith}
use native.Mathlib.Decide.{dec_lt}
use lib.ListN.{length, get_or, replicate, length-append, length-set, length-replicate, get_or-append, get_or-eq_default}
use lib.Seq.{get_or-set_same, get_or-set_other, get_or_at}
use borrow.Author.Tests.{ne_eqb}
use Rattle.definitions.specs.Bytes.{blank_operation}
use Rattle.definitions.specs.Limits.{most_steps}
use Rattle.definitions.specs.Links.{ticks_said, delay_at, least_with, least_at}
use Rattle.definitions.specs.declared.Delay.{Delay}
use Rattle.definitions.specs.declared.Delay.TheVariants.{Open, Fixed}
use Rattle.definitions.specs.declared.Operation.{Operation}
use Rattle.laws.proofs.Bools.{same_or_not}
use Rattle.laws.proofs.Lists.{zeros_at}
use Rattle.data_edges.specs.Words.{counted_place, gain_place}
use Rattle.read_steps.specs.Leaving.{Leasts, LeastPut, added, leaving}

-- Step 0 has none, and an open step other than 0 has what its record says.
pub least_source : (d : Delay) (said : Option ℕ) → least_with 0 d said ≡ 0
unfolding least_with
least_source Open said = refl
least_source (Fixed ticks) said = refl

pub least_unsaid : (i : ℕ) → least_with i Open None ≡ 0
unfolding least_with ticks_said
least_unsaid zero = refl
least_unsaid (suc i) = refl

pub least_open : (i : ℕ) (said : Option ℕ) → (i ≡ 0 → ⊥) → least_with i Open said ≡ ticks_said said
unfolding least_with
least_open zero said h = absurd (h refl)
least_open (suc i) said h = refl

-- What step i adds, by its delay and what its record says of a least.
pub added_fixed : (i : ℕ) (o : Operation) (ticks : ℕ) → o.delay ≡ Fixed ticks → added i o ≡ ticks * gain_place
unfolding leaving
added_fixed i o ticks e = rw e

pub added_source : (i : ℕ) (o : Operation) → i ≡ 0 → o.delay ≡ Open → added i o ≡ 0
unfolding leaving
added_source i o z e = rw (e, z, least_source Open o.least)

pub added_open : (i : ℕ) (o : Operation) (said : Option ℕ) → (i ≡ 0 → ⊥) → o.delay ≡ Open → o.least ≡ said → added i o ≡ counted_place + ticks_said said * gain_place
unfolding leaving
added_open i o said z e f = rw (e, f, ne_eqb i 0 z, least_open i said z)

-- Step 0 adds nothing where it is open, as it is on every sheet.
pub source_adds_nothing : (os : List Operation) → delay_at os 0 ≡ Open → leaving (delay_at os 0) (least_at os 0) 0 ≡ 0
unfolding least_at delay_at
source_adds_nothing os e = added_source 0 (get_or os 0 blank_operation) refl e

-- The leasts of steps with one more behind them.
pub least_last : (os : List Operation) (o : Operation) (i : ℕ) → length os ≡ i → least_at (os ++ o ∷ []) i ≡ least_with i o.delay o.least
unfolding least_at delay_at
least_last os o i e = ap (λ (x : Operation). least_with i x.delay x.least) (get_or_at os o [] blank_operation i e)

pub least_before : (os : List Operation) (o : Operation) (i : ℕ) → i < length os → least_at (os ++ o ∷ []) i ≡ least_at os i
unfolding least_at delay_at
least_before os o i h = ap (λ (x : Operation). least_with i x.delay x.least) (get_or-append os (o ∷ []) blank_operation i h)

-- Past the steps there is none.
pub least_past : (os : List Operation) (i : ℕ) → length os ≤ i → least_at os i ≡ 0
unfolding least_at delay_at least_with
least_past os i h = ap (λ (x : Operation). least_with i x.delay x.least) (get_or-eq_default os blank_operation h)

-- A step more whose least is put there: a 0 stood there, as for every step that is not read, and stays where there is none.
pub leasts_more : (os : List Operation) (o : Operation) (i l : ℕ) (leasts after : List ℕ) → length os ≡ i → Leasts os leasts → i < length leasts → l ≡ least_with i o.delay o.least → LeastPut i l leasts after → Leasts (os ++ o ∷ []) after
leasts_more os o i l leasts after count so h f put k = elim (same_or_not k i) [
  | inl same ↦ rw same (here put ∙ f ∙ sym (least_last os o i count))
  | inr other ↦ there put other ∙ so k ∙ elsewhere other (dec_lt k i)
]
  where
    was : get_or leasts i 0 ≡ 0
    was = so i ∙ least_past os i (omega arith)

    here : LeastPut i l leasts after → get_or after i 0 ≡ l
    here (inl none) = rw none.1 (was ∙ sym none.0)
    here (inr one) = rw one (get_or-set_same leasts i l 0 h)

    there : LeastPut i l leasts after → (k ≡ i → ⊥) → get_or after k 0 ≡ get_or leasts k 0
    there (inl none) other = rw none.1 refl
    there (inr one) other = rw one (get_or-set_other leasts i k l 0 other)

    elsewhere : (k ≡ i → ⊥) → Dec (k < i) → least_at os k ≡ least_at (os ++ o ∷ []) k
    elsewhere other (yes b) = sym (least_before os o k (omega arith))
    elsewhere other (no b) = least_past os k (omega arith) ∙ sym (least_past (os ++ o ∷ []) k (omega (arith, length-append os (o ∷ []))))

-- Before any is put there they are those of no step, and there is a number for each. Putting one keeps how many there are.
pub leasts_none : {leasts : List ℕ} → leasts ≡ replicate most_steps 0 → Leasts [] leasts
leasts_none blank i = rw blank (zeros_at most_steps i) ∙ sym (least_past [] i (omega arith))

pub blank_long : {leasts : List ℕ} → leasts ≡ replicate most_steps 0 → length leasts ≡ most_steps
blank_long blank = rw blank (length-replicate {A = ℕ} most_steps 0)

pub leasts_long : (i l : ℕ) (leasts after : List ℕ) → LeastPut i l leasts after → length after ≡ length leasts
leasts_long i l leasts after (inl none) = ap length none.1
leasts_long i l leasts after (inr one) = ap length one ∙ length-set leasts i l
