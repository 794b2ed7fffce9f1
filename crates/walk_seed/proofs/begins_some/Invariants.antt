-- `walk_seed::begins_some` meets its contract.
use mathlib.Core.Path.{◌≡◌}
use Prim.Native.Nat.{◌≤◌}
use lib.ListN.{length}
use Rattle.walk_seed.specs.Seeds.{Idle}
use Rattle.walk_seed.proofs.begins_some.Given as goal

abbrev pub invariant-loop-w : goal.invariant-loop-w
invariant-loop-w l = (l.w-index ≤ length l.es) × (l.all ≡ 0 → Idle l.es l.w-index)
