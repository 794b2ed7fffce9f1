-- `walk_seed::all_members` meets its contract.
use mathlib.Core.Path.{◌≡◌}
use Prim.Native.Nat.{ℕ}
use Rattle.definitions.specs.Basics.{any_below, test_bit}
use Rattle.data_relations.specs.Rows.{row_bit}
use Rattle.walk_seed.proofs.all_members.Given as goal

abbrev pub invariant-loop-v : goal.invariant-loop-v
invariant-loop-v l = (a : ℕ) → test_bit l.all a ≡ any_below (λ w. row_bit l.sets w a) l.v
