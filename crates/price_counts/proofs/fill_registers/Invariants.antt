-- The invariant: the counts of the steps passed are filled in, and their sum is small (Filling).
use Prim.Native.Nat.{◌-◌}
use Rattle.definitions.specs.Basics.{test_bit}
use Rattle.definitions.specs.Price.{registers_of}
use Rattle.price_counts.proofs.Filling.{Filling}
use Rattle.price_counts.proofs.fill_registers.Given as goal

abbrev pub invariant-loop-a : goal.invariant-loop-a
invariant-loop-a l = Filling (registers_of (test_bit l.unbounded) l.entries l.n l.plan) l.n l.a l.fn.list l.list l.total
