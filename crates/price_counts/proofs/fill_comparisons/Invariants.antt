-- The invariant: the counts of the steps passed are filled in, and their sum is small (Filling).
use Prim.Native.Nat.{◌-◌}
use Rattle.definitions.specs.Price.{comparisons_of}
use Rattle.price_counts.proofs.Filling.{Filling}
use Rattle.price_counts.proofs.fill_comparisons.Given as goal

abbrev pub invariant-loop-v : goal.invariant-loop-v
invariant-loop-v l = Filling (comparisons_of l.n l.plan) l.n l.v l.fn.list l.list l.total
