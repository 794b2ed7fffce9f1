-- `data_relations::transpose` meets its contract. Invariant: the rows below i are turned round.
use Rattle.data_relations.proofs.Transposing.{Turned}
use Rattle.data_relations.proofs.transpose.Given as goal

abbrev pub invariant-loop-i : goal.invariant-loop-i
invariant-loop-i l = Turned l.rows l.i l.out
