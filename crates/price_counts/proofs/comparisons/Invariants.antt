-- The invariant: the members among the columns passed, one for each at most.
use mathlib.Core.Path.{◌≡◌}
use Prim.Native.Nat.{◌-◌, ◌≤◌}
use Rattle.price_counts.proofs.Entries.{compared}
use Rattle.price_counts.proofs.comparisons.Given as goal

abbrev pub invariant-loop-a : goal.invariant-loop-a
invariant-loop-a l = (l.count ≡ compared l.n l.plan l.v l.a) × (l.count ≤ l.a)
