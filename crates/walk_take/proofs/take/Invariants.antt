-- `walk_take::take` meets its contract. Invariant: the cells below k, a multiple of four, are made ready, and a number that none of the four gathered ones is above bounds their weights. What falls: the cells that are left.
use mathlib.Core.List.{[]}
use mathlib.Core.Path.{◌≡◌}
use Prim.Native.Nat.{◌-◌, ◌%◌, ◌≤◌}
use lib.ListN.{get_or}
use Rattle.walk_take.proofs.Taking.{Copied, Gathered}
use Rattle.walk_take.proofs.take.Given as goal

abbrev pub invariant-loop-k : goal.invariant-loop-k
invariant-loop-k l = (l.k ≤ l.width) × (l.k % 4 ≡ 0) × Copied (get_or l.d l.u []) l.row l.k × Gathered (get_or l.d l.u []) l.k l.t0 l.t1 l.t2 l.t3

abbrev pub decreases-loop-k : goal.decreases-loop-k
decreases-loop-k l = l.width - l.k
