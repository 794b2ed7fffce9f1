-- `walk_lift::lift` meets its contract. Invariant: the columns below k, a multiple of four, are lifted, and nothing else is changed.
use Prim.Native.Nat.{◌-◌, ◌%◌, ◌≤◌, ◌<◌}
use mathlib.Core.Path.{◌≡◌}
use Rattle.walk_lift.specs.Lifts.{Lifted}
use Rattle.walk_lift.proofs.lift.Given as goal

abbrev pub invariant-loop-k : goal.invariant-loop-k
invariant-loop-k l = (l.k ≤ l.width) × (l.k % 4 ≡ 0) × Lifted (λ j. j < l.k) l.to l.delta l.row l.fn.d l.d

abbrev pub decreases-loop-k : goal.decreases-loop-k
decreases-loop-k l = l.width - l.k
