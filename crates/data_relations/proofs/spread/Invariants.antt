-- What the rows have, with what is left to put in, stays the same.
use Rattle.data_relations.proofs.Transposing.{Spreading}
use Rattle.data_relations.proofs.spread.Given as goal

abbrev pub invariant-loop-k : goal.invariant-loop-k
invariant-loop-k l = Spreading l.m l.v l.initial.out l.out l.k-iterator.left
