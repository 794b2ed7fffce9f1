-- Invariant: v is a step that the tables have.
use Rattle.std.proofs.Common.{◌<◌}
use Rattle.walk_feasible.proofs.far_back.Given as goal

abbrev pub invariant-loop : goal.invariant-loop
invariant-loop l = l.v < 64
