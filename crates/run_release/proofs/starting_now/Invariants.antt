-- The loop's invariant (`SweptBelow`): the map and the start ticks are the definition's for the steps so far.
use Rattle.run_release.proofs.SweepLaws.{SweptBelow}
use Rattle.run_release.proofs.starting_now.Given as goal

abbrev pub invariant-loop-v : goal.invariant-loop-v
invariant-loop-v l = SweptBelow l.st l.table l.start l.map l.v
