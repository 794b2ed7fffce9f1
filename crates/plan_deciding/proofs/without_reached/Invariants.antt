-- The invariant: what is kept, less those of the members left that are reached, is what is asked for.
use Rattle.std.proofs.Common.{◌≡◌, true, ℕ, ◌≤◌}
use Rattle.definitions.specs.Basics.{test_bit}
use Rattle.definitions.specs.Rounds.{entry}
use Rattle.plan_deciding.specs.Working.{Full, cells_in}
use Rattle.plan_deciding.proofs.Laws.{kept_of}
use Rattle.plan_deciding.proofs.without_reached.Given as goal

abbrev pub invariant-loop-a : goal.invariant-loop-a
invariant-loop-a l = ((a : ℕ) → test_bit l.a-iterator.left a ≡ true → test_bit l.given a ≡ true) × (1 ≤ entry (cells_in l.t) l.v l.b → Full (cells_in l.t) l.v l.given → Full (cells_in l.t) l.b l.given → (a : ℕ) → kept_of (cells_in l.t) l.v l.b l.kept l.a-iterator.left a ≡ kept_of (cells_in l.t) l.v l.b l.map l.given a)
