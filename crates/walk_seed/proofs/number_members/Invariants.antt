-- The members that are not left have their numbers, those below the width.
use Rattle.walk_seed.proofs.Numbering.{Numbering}
use Rattle.walk_seed.proofs.number_members.Given as goal

abbrev pub invariant-loop-a : goal.invariant-loop-a
invariant-loop-a l = Numbering l.all l.a-iterator.left l.width l.number
