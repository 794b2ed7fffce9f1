-- What waits in the map and is not handed on stands among those that are left.
use mathlib.Core.Path.{◌≡◌}
use Rattle.data_edges.specs.Serial.{leasts_in}
use Rattle.walk_cells.specs.Tables.{said}
use Rattle.walk_settled.specs.Settled.{waits_handed_on}
use Rattle.walk_settled.proofs.settled_row.Given as goal

abbrev pub invariant-loop-a : goal.invariant-loop-a
invariant-loop-a l = waits_handed_on (said l.d) (leasts_in l.leasts) l.map l.i ≡ waits_handed_on (said l.d) (leasts_in l.leasts) l.a-iterator.left l.i
