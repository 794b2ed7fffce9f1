-- The first i records of the order are put.
use Rattle.data_buffers.specs.Texts.{Put, texts}
use Rattle.write_bytes.proofs.Texts.{link_text}
use Rattle.write_bytes.proofs.put_links.Given as goal

abbrev pub invariant-loop-i : goal.invariant-loop-i
invariant-loop-i l = Put (texts (link_text l.links l.order) l.i) l.at l.p l.fn.out l.out
