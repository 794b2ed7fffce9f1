-- `walk_sweep::push_waits` meets its contract. Invariant: those that are left wait, and all others that wait have been handed the row, whatever the numbers of the columns are.
use mathlib.Core.List.{List}
use mathlib.Core.Path.{◌≡◌}
use mathlib.Core.Bool.{true}
use Prim.Native.Nat.{ℕ}
use Rattle.definitions.specs.Basics.{test_bit}
use Rattle.walk_lift.specs.Lifts.{lent}
use Rattle.walk_edge.specs.Columns.{HandedAll}
use Rattle.walk_sweep.proofs.Handing.{Told}
use Rattle.walk_sweep.proofs.push_waits.Given as goal

abbrev pub invariant-loop-i : goal.invariant-loop-i
invariant-loop-i l =
    ((j : ℕ) → test_bit l.i-iterator.left j ≡ true → test_bit l.waiting j ≡ true) × ((u : ℕ) (number : List ℕ) → HandedAll (λ a. Told l.least u l.waiting l.i-iterator.left) number u (lent l.row l.width) l.fn.d l.d l.marks l.left)
