-- The invariant: the fields of the numbers passed are written.
use Rattle.data_buffers.specs.Texts.{Put, texts}
use Rattle.print_line.specs.Texts.{field_at}
use Rattle.print_line.proofs.put_fields.Given as goal

abbrev pub invariant-loop-x : goal.invariant-loop-x
invariant-loop-x l = Put (texts (field_at l.numbers) l.x-index) l.at l.p l.fn.out l.out
