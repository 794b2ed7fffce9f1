-- m is the map of the first words.
use Rattle.clash_parts.proofs.Entering.{Entering}
use Rattle.clash_parts.proofs.entered.Given as goal

abbrev pub invariant-loop-w : goal.invariant-loop-w
invariant-loop-w l = Entering l.es l.m l.w-index
