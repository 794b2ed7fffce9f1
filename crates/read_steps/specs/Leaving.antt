-- What steps add to the words of the after links that leave them, what their leasts are, and which of them are open.
use Rattle.std.specs.Prelude.{◌≡◌, Bool, cond, not, ◌&&◌, ◌⊎◌, List, ℕ, ◌+◌, ◌*◌, ◌<◌, eqb, get_or, set}
use Rattle.definitions.specs.Links.{delay_at, is_open, least_at, least_with}
use Rattle.definitions.specs.declared.Delay.{Delay}
use Rattle.definitions.specs.declared.Delay.TheVariants.{Open, Fixed}
use Rattle.definitions.specs.declared.Operation.{Operation}
use Rattle.data_edges.specs.Words.{counted_place, gain_place}

-- What step i adds, with this delay and this least, to the word of an after link that leaves it: where it is open its least as gain, and the mark if it is not step 0; where it is fixed its ticks as gain.
unfoldable pub leaving : Delay → ℕ → ℕ → ℕ
leaving (Fixed ticks) least i = ticks * gain_place
leaving Open least i = cond (eqb i 0) 0 counted_place + least * gain_place

-- What step i adds, by its record.
abbrev pub added : ℕ → Operation → ℕ
added i o = leaving o.delay (least_with i o.delay o.least) i

-- What each of n steps adds.
pub record Leaves (os : List Operation) (n : ℕ) (digits : List ℕ) : Type 0 where
  pub each : (i : ℕ) → i < n → get_or digits i 0 ≡ leaving (delay_at os i) (least_at os i) i

-- The leasts of the steps, as numbers: 0 where a step has none, and past the last step.
abbrev pub Leasts : List Operation → List ℕ → Type 0
Leasts os leasts = (i : ℕ) → get_or leasts i 0 ≡ least_at os i

-- The least of step i is put among the leasts, where there is one.
abbrev pub LeastPut : ℕ → ℕ → List ℕ → List ℕ → Type 0
LeastPut i least before after = ((least ≡ 0) × (after ≡ before)) ⊎ (after ≡ set before i least)

-- An open step other than 0.
unfoldable pub unbounded_at : List Operation → ℕ → Bool
unbounded_at os i = not (eqb i 0) && is_open (delay_at os i)
