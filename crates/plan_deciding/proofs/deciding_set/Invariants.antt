-- The invariant: those left are members, and what is kept, less what the members left leave out, is the deciding set. At the end step 0 alone may be left, which leaves nobody out. The measure is the map of the members left.
use mathlib.Core.Path.{◌≡◌}
use mathlib.Core.Bool.{true}
use Prim.Native.Nat.{ℕ}
use Rattle.definitions.specs.Basics.{test_bit}
use Rattle.plan_deciding.specs.Working.{Orderly, member, cells_in}
use Rattle.plan_deciding.proofs.Laws.{Sieving}
use Rattle.plan_deciding.proofs.deciding_set.Given as goal

abbrev pub invariant-loop-left : goal.invariant-loop-left
invariant-loop-left l = ((b : ℕ) → test_bit l.left b ≡ true → member l.t.sets.now l.v b ≡ true) × (Orderly (cells_in l.t) l.t.sets.now l.v → Sieving (cells_in l.t) l.t.sets.now l.v l.kept l.left)

abbrev pub decreases-loop-left : goal.decreases-loop-left
decreases-loop-left l = l.left
