-- The invariant: the bytes passed are written.
use Rattle.data_buffers.specs.Texts.{Put, texts}
use Rattle.data_buffers.proofs.Writing.{byte_text}
use Rattle.print_line.proofs.put_word.Given as goal

abbrev pub invariant-loop-b : goal.invariant-loop-b
invariant-loop-b l = Put (texts (byte_text l.word) l.b-index) l.at l.p l.fn.out l.out
