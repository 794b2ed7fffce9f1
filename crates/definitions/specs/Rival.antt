-- The rivals: "the rival's sheet", where waits are added; and the rival of request L11, who does not know the future.
use Rattle.std.specs.Prelude.{◌≡◌, ◌⊎◌, ◌≢◌, ℕ, ◌+◌, ◌<◌, ◌≤◌, length}
use mathlib.Core.List.{List, Memᴰ}
use Rattle.definitions.specs.Links.{Constraint, sequencing, minimum, maximum, finish_maximum, KeepsAll, delay_at, Respects, duration, edges, members}
use Rattle.definitions.specs.Anchors.{WellPosed}
use Rattle.definitions.specs.declared.Delay.TheVariants.{Open}
use Rattle.definitions.specs.declared.Operation.{Operation}

-- A further link is an after link, with any gap, or an at-least link between two of the steps.
abbrev pub Further : ℕ → Constraint → Type 0
Further n (sequencing i j g) = (i < n) × (j < n)
Further n (minimum i j m) = (i < n) × (j < n)
Further n (maximum i j u) = ⊥
Further n (finish_maximum i j u) = ⊥

-- The same steps, every link of the sheet and any further after or at-least links, past the limits on records and pairs too. It meets the rule for sound, with start sets over its own links and no
-- waits put in.
pub record Extension (os : List Operation) (cs fs : List Constraint) : Type 0 where
  pub keeps_all : (c : Constraint) → Memᴰ c cs → Memᴰ c fs
  pub only : (c : Constraint) → Memᴰ c fs → Memᴰ c cs ⊎ Further (length os) c
  pub well_posed : WellPosed (members (edges os fs))

-- v is open and not step 0: it lasts as long as it lasts.
pub record Lasts (os : List Operation) (v : ℕ) : Type 0 where
  pub not_source : v ≢ 0
  pub open_step : delay_at os v ≡ Open

-- A list of durations with no largest one: 0 for every other step, and none below its least.
pub record DelayAssignment (os : List Operation) (d : ℕ → ℕ) : Type 0 where
  pub idle : (v : ℕ) → ¬ Lasts os v → d v ≡ 0
  pub respects : Respects os d

-- Step v has finished by tick t, where its start is that of the strategy ρ.
abbrev pub FinishedBy : List Operation → ((ℕ → ℕ) → ℕ → ℕ) → (ℕ → ℕ) → ℕ → ℕ → Type 0
FinishedBy os ρ d v t = ρ d v + duration os d v ≤ t

-- A dynamic strategy, the rival without foresight: "it keeps every link for every list, with no largest duration, and where two lists give the same duration to every step that has finished by a tick
-- under either of them, it starts the same steps then."
pub record DynamicStrategy (os : List Operation) (cs : List Constraint) (ρ : (ℕ → ℕ) → ℕ → ℕ) : Type 0 where
  pub keeps : (d : ℕ → ℕ) → DelayAssignment os d → KeepsAll os cs d (ρ d)
  pub blind : (d d' : ℕ → ℕ) → DelayAssignment os d → DelayAssignment os d' → (t : ℕ) → ((v : ℕ) → v < length os → FinishedBy os ρ d v t ⊎ FinishedBy os ρ d' v t → duration os d v ≡ duration os d' v) → (v : ℕ) → v < length os → ρ d v ≡ t → ρ d' v ≡ t
