-- `judge_waits::wait_maps` meets its contract. Invariant: the maps hold what the words before the return that comes next make wait.
use mathlib.Core.Path.{◌≡◌}
use lib.ListN.{take}
use Rattle.data_edges.specs.Words.{graph}
use Rattle.data_lists.proofs.Returning.{Returning}
use Rattle.data_relations.specs.Rows.{Gathered}
use Rattle.judge_waits.specs.Reaching.{holds_up}
use Rattle.judge_waits.proofs.wait_maps.Given as goal

abbrev pub invariant-loop-k : goal.invariant-loop-k
invariant-loop-k l =
    (l.k-iterator.es ≡ l.es) × Returning (λ j. Gathered (holds_up l.reach l.sets) (graph (take j l.es.words.now)) l.maps) l.es.words.now l.k-iterator.at l.k-iterator.next
