-- What the test of 28 presumes.
use Rattle.std.specs.Prelude.{◌≡◌, List, ℕ}
use Rattle.definitions.specs.Limits.{most_gain}
use Rattle.definitions.specs.Links.{Edge, members}
use Rattle.definitions.specs.Waits.{wait_maps}
use Rattle.theory.specs.Graphs.{ForwardAcyclic, Gains, SheetLeasts, Well}

-- Edges that can be scheduled, with the leasts of their steps and the maps of their waits.
pub record Waiting (n : ℕ) (least : ℕ → ℕ) (g : List Edge) (maps : List ℕ) : Type 0 where
  pub well : Well n (members g)
  pub acyclic : ForwardAcyclic (members g)
  pub gains : Gains (members g) most_gain
  pub leasts : SheetLeasts least (members g)
  pub waits : maps ≡ wait_maps n g
