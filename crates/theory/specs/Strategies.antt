-- Rivals without foresight, on graphs: dynamic execution strategies. Open says which steps have delays of their own.
use Rattle.std.specs.Prelude.{◌≡◌, true, ◌≢◌, ◌⊎◌, ◌+◌, ◌<◌, ◌≤◌, ℕ}
use Rattle.definitions.specs.Links.{Edge, Graph}
use Rattle.theory.specs.Graphs.{Schedule}

-- Delays give every step that is not open none. They have no largest one.
abbrev pub Assigned : (ℕ → Type 0) → (ℕ → ℕ) → Type 0
Assigned Open d = (v : ℕ) → ¬ Open v → d v ≡ 0

-- What the edges of a sheet say of its open steps. The source is not among them.
pub record Unbounded (Open : ℕ → Type 0) (E : Graph) : Type 0 where
  pub not_source : ¬ Open 0
  pub counted_open : (e : Edge) → E e → e.counted ≡ true → e.from ≢ 0 → Open e.from
  pub late_open : (e : Edge) → E e → e.late ≡ true → Open e.to

-- Step v has finished by tick t: it lasts its least and its delay.
abbrev pub Ended : (ℕ → ℕ) → ((ℕ → ℕ) → ℕ → ℕ) → (ℕ → ℕ) → ℕ → ℕ → Type 0
Ended least ρ d v t = ρ d v + least v + d v ≤ t

-- It keeps every edge for all delays; and where two lists of delays are the same at every step that has finished by a tick under either of them, it starts the same steps then.
pub record Strategy (n : ℕ) (least : ℕ → ℕ) (Open : ℕ → Type 0) (E : Graph) (ρ : (ℕ → ℕ) → ℕ → ℕ) : Type 0 where
  pub keeps : (d : ℕ → ℕ) → Assigned Open d → Schedule E d (ρ d)
  pub blind : (d d' : ℕ → ℕ) → Assigned Open d → Assigned Open d' → (t : ℕ) → ((v : ℕ) → v < n → Ended least ρ d v t ⊎ Ended least ρ d' v t → d v ≡ d' v) → (v : ℕ) → v < n → ρ d v ≡ t → ρ d' v ≡ t
