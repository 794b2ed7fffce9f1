-- The waits of the steps passed over have handed on.
use Rattle.std.specs.Prelude.{◌≡◌, true, get_or}
use Rattle.definitions.specs.Basics.{all_below}
use Rattle.data_edges.specs.Serial.{leasts_in}
use Rattle.walk_cells.specs.Tables.{said}
use Rattle.walk_settled.specs.Settled.{waits_handed_on}
use Rattle.walk_settled.proofs.settled_waits.Given as goal

abbrev pub invariant-loop-i : goal.invariant-loop-i
invariant-loop-i l = all_below (λ j. waits_handed_on (said l.d) (leasts_in l.leasts) (get_or l.maps j 0) j) l.i ≡ true
