-- Relaxation in any order. A column has a cell for each vertex, as a row of rounds has: 0 where no walk comes, w + 1 for the weight w.
use Rattle.std.specs.Prelude.{◌≡◌, true, ◌≢◌, ◌-◌, ◌≤◌, suc, ℕ}
use Rattle.definitions.specs.Links.{Edge, Graph}
use Rattle.definitions.specs.Rounds.{extend}

-- What an edge hands on from the cell at its start.
abbrev pub hand : (ℕ → ℕ) → Edge → ℕ
hand r e = extend (r e.from) e.gain e.loss

-- Every edge has handed on.
abbrev pub Settles : Graph → (ℕ → ℕ) → Type 0
Settles E r = (e : Edge) → E e → hand r e ≤ r e.to

-- Where the walks of a begin: at the source with the empty walk; for another anchor with each counted edge out of it.
pub record Leads (a : ℕ) (e : Edge) : Type 0 where
  pub not_source : a ≢ 0
  pub leaves : e.from ≡ a
  pub counts : e.counted ≡ true

pub record Seeds (E : Graph) (a : ℕ) (r : ℕ → ℕ) : Type 0 where
  pub source : a ≡ 0 → 1 ≤ r 0
  pub after : (e : Edge) → E e → Leads a e → suc (e.gain - e.loss) ≤ r e.to

-- A sweep, in whatever order the edges come: no cell falls, and every edge hands on what its start had before.
pub record Sweep (E : Graph) (r s : ℕ → ℕ) : Type 0 where
  pub up : (v : ℕ) → r v ≤ s v
  pub hands : (e : Edge) → E e → hand r e ≤ s e.to

-- k sweeps, one after another.
pub data Sweeps (E : Graph) (r : ℕ → ℕ) : ℕ → (ℕ → ℕ) → Type 0 where
  none : {k : ℕ} {s : ℕ → ℕ} → k ≡ 0 → ((v : ℕ) → r v ≤ s v) → Sweeps E r k s
  more : {k j : ℕ} {m s : ℕ → ℕ} → Sweeps E r j m → Sweep E m s → k ≡ suc j → Sweeps E r k s
