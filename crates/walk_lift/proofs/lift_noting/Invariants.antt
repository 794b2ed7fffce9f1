-- `walk_lift::lift_noting` meets its contract. Invariant: the columns below k, a multiple of four, are lifted, and nothing else is changed; where nothing is noted the row is as it was.
use Prim.Native.Nat.{◌-◌, ◌%◌, ◌≤◌, ◌<◌}
use mathlib.Core.Path.{◌≡◌}
use lib.IntN.{pos}
use Rattle.walk_lift.specs.Lifts.{Lifted, Still}
use Rattle.walk_lift.proofs.lift_noting.Given as goal

abbrev pub invariant-loop-k : goal.invariant-loop-k
invariant-loop-k l = (l.k ≤ l.width) × (l.k % 4 ≡ 0) × Lifted (λ j. j < l.k) l.to l.delta l.row l.fn.d l.d × (l.g0 ≡ pos 0 → l.g1 ≡ pos 0 → l.g2 ≡ pos 0 → l.g3 ≡ pos 0 → Still l.to l.fn.d l.d)

abbrev pub decreases-loop-k : goal.decreases-loop-k
decreases-loop-k l = l.width - l.k
