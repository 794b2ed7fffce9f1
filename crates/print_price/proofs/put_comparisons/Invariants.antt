-- The invariant: the lines of the first v steps are written.
use Rattle.data_buffers.specs.Texts.{Put, texts}
use Rattle.print_price.specs.Texts.{comparisons_line}
use Rattle.print_price.proofs.put_comparisons.Given as goal

abbrev pub invariant-loop-v : goal.invariant-loop-v
invariant-loop-v l = Put (texts (comparisons_line l.comparisons) l.v) l.at l.p l.initial.out l.out
