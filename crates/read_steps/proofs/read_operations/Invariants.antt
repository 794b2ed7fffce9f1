-- i of the n records are read (`Stepping`): those read, in front of those left, give the answer of the whole, what each of them adds is written, and its least, and the map has those that are open.
use mathlib.Core.Path.{◌≡◌}
use Prim.Native.Nat.{◌≤◌}
use lib.ListN.{length, drop}
use Rattle.definitions.specs.Limits.{most_steps}
use Rattle.read_steps.proofs.Stepping.{Stepping}
use Rattle.read_steps.proofs.read_operations.Given as goal

abbrev pub invariant-loop-i : goal.invariant-loop-i
invariant-loop-i l = (l.next ≤ length l.s) × (length l.digits ≡ most_steps) × (length l.leasts ≡ most_steps) × Stepping l.n (drop l.at l.s) l.i (drop l.next l.s) l.digits l.leasts l.unbounded
