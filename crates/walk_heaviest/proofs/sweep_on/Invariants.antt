-- `walk_heaviest::sweep_on` meets its contract. Invariant: with the first, k sweeps have been, over whatever table the first one began with.
use mathlib.Core.List.{List}
use Prim.Native.Nat.{ℕ, ◌+◌, ◌-◌, ◌*◌, ◌≤◌}
use lib.IntN.{ℤ}
use lib.ListN.{length}
use Rattle.data_edges.specs.Serial.{leasts_in}
use Rattle.definitions.specs.Limits.{most_gain}
use Rattle.walk_cells.specs.Tables.{Held, Square}
use Rattle.walk_sweep.specs.Graphs.{most_visits}
use Rattle.walk_heaviest.specs.Settling.{SettlingBy}
use Rattle.walk_heaviest.proofs.sweep_on.Given as goal

abbrev pub invariant-loop-k : goal.invariant-loop-k
invariant-loop-k l = ((1 ≤ l.k) × (l.k ≤ l.n)) × Square (length l.fn.d) l.d × ((w : ℕ) → Held w l.fn.d → Held (w + most_gain * (most_visits * (l.k - 1))) l.d) × ((d' : List (List ℤ)) → SettlingBy l.es.words.now (leasts_in l.leasts) l.waiting l.number l.width l.n 1 d' l.fn.d l.marks → SettlingBy l.es.words.now (leasts_in l.leasts) l.waiting l.number l.width l.n l.k d' l.d l.left)
