-- The loop's invariant (`Passed`): of the entries so far, whether one names a step, and that all named ones are due.
use Rattle.run_ready.proofs.RowLaws.{Passed}
use Rattle.run_ready.proofs.row_due.Given as goal

abbrev pub invariant-loop-a : goal.invariant-loop-a
invariant-loop-a l = Passed l.st.finished l.st.finish l.st.tick l.row l.named l.a
