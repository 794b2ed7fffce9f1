-- The invariant: the largest offset over the rows passed.
use mathlib.Core.Path.{◌≡◌}
use Prim.Native.Nat.{◌-◌}
use Rattle.price_counts.proofs.Entries.{most_of}
use Rattle.price_counts.proofs.largest_offset.Given as goal

abbrev pub invariant-loop-v : goal.invariant-loop-v
invariant-loop-v l = l.most ≡ most_of l.n l.plan l.a l.v
