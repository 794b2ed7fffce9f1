-- The invariant: the lines of the first v steps are written.
use Rattle.data_buffers.specs.Texts.{Put, texts}
use Rattle.print_plan.specs.Texts.{table_row}
use Rattle.print_plan.proofs.put_starts.Given as goal

abbrev pub invariant-loop-v : goal.invariant-loop-v
invariant-loop-v l = Put (texts (table_row l.n l.table) l.v) l.at l.p l.initial.out l.out
