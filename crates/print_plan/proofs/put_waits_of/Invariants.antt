-- The invariant: the lines of the first i steps are written.
use Rattle.data_buffers.specs.Texts.{Put, texts}
use Rattle.print_plan.specs.Texts.{wait_cell}
use Rattle.print_plan.proofs.put_waits_of.Given as goal

abbrev pub invariant-loop-i : goal.invariant-loop-i
invariant-loop-i l = Put (texts (wait_cell l.maps l.a) l.i) l.at l.p l.initial.out l.out
