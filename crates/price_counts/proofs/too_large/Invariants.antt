-- The invariant: no step passed is too large.
use mathlib.Core.Path.{◌≡◌}
use mathlib.Core.Bool.{false}
use Prim.Native.Nat.{◌-◌}
use Rattle.definitions.specs.Basics.{any_below}
use Rattle.price_counts.specs.Plans.{is_large}
use Rattle.price_counts.proofs.too_large.Given as goal

abbrev pub invariant-loop-a : goal.invariant-loop-a
invariant-loop-a l = any_below (is_large l.unbounded l.n l.plan) l.a ≡ false
