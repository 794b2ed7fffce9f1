-- The invariant: no entry passed is above its limit or below its least.
use Rattle.std.proofs.Common.{◌≡◌, false}
use Rattle.definitions.specs.Basics.{any_below}
use Rattle.plan_durations.specs.Delays.{entry_outside}
use Rattle.plan_durations.proofs.delays_bad.Given as goal

abbrev pub invariant-loop-i : goal.invariant-loop-i
invariant-loop-i l = any_below (entry_outside l.unbounded l.leasts l.list) l.i ≡ false
