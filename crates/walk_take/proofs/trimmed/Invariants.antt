-- `walk_take::trimmed` meets its contract. Invariant: from w on no column holds a weight.
use Rattle.walk_take.specs.Rows.{Trimmed}
use Rattle.walk_take.proofs.trimmed.Given as goal

abbrev pub invariant-loop-w : goal.invariant-loop-w
invariant-loop-w l = Trimmed l.cells l.width l.w
