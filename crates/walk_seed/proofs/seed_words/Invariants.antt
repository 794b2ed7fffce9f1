-- `walk_seed::seed_words` meets its contract.
use Prim.Native.Nat.{◌≤◌}
use lib.ListN.{length, take}
use Rattle.definitions.specs.Links.{members}
use Rattle.data_edges.specs.Words.{graph}
use Rattle.walk_seed.specs.Seeds.{BegunAll}
use Rattle.walk_seed.proofs.seed_words.Given as goal

abbrev pub invariant-loop-w : goal.invariant-loop-w
invariant-loop-w l = (l.w-index ≤ length l.es) × BegunAll (members (graph (take l.w-index l.es))) l.number l.fn.d l.d
