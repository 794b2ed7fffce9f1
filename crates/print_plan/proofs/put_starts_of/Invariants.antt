-- The invariant: the lines of the first a steps are written.
use Rattle.data_buffers.specs.Texts.{Put, texts}
use Rattle.print_plan.specs.Texts.{start_cell}
use Rattle.print_plan.proofs.put_starts_of.Given as goal

abbrev pub invariant-loop-a : goal.invariant-loop-a
invariant-loop-a l = Put (texts (start_cell l.n l.table l.v) l.a) l.at l.p l.initial.out l.out
