-- The invariant: the lines of the first a steps are written.
use Rattle.data_buffers.specs.Texts.{Put, texts}
use Rattle.print_price.specs.Texts.{registers_cell}
use Rattle.print_price.proofs.put_registers.Given as goal

abbrev pub invariant-loop-a : goal.invariant-loop-a
invariant-loop-a l = Put (texts (registers_cell l.unbounded l.registers) l.a) l.at l.p l.initial.out l.out
