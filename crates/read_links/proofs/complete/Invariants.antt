-- The loop's invariant is `Completing`: the loose steps that are done stand before those that are left, and behind the first count words stand the edges of their links.
use Rattle.read_links.proofs.Completing.{Completing}
use Rattle.read_links.proofs.complete.Given as goal

abbrev pub invariant-loop-v : goal.invariant-loop-v
invariant-loop-v l = Completing l.n l.loose l.d l.initial.words l.count l.words l.next l.v-iterator.left
