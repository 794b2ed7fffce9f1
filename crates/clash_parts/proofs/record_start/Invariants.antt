-- The words from the one before the counter on have the pair of the last one.
use Prim.Native.Nat.{◌-◌}
use Rattle.clash_parts.proofs.Starts.{Going}
use Rattle.clash_parts.proofs.record_start.Given as goal

abbrev pub invariant-loop-first : goal.invariant-loop-first
invariant-loop-first l = Going l.es l.end l.pair (l.first - 1)
