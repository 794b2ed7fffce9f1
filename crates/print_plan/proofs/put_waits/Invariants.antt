-- The invariant: the lines of the first a steps are written.
use Rattle.data_buffers.specs.Texts.{Put, texts}
use Rattle.print_plan.specs.Texts.{maps_row}
use Rattle.print_plan.proofs.put_waits.Given as goal

abbrev pub invariant-loop-a : goal.invariant-loop-a
invariant-loop-a l = Put (texts (maps_row l.n l.maps) l.a) l.at l.p l.initial.out l.out
