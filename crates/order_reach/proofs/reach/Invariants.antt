-- `order_reach::reach` meets its contract. Invariant: what is found after as many trips.
use mathlib.Core.Path.{◌≡◌}
use lib.ListN.{length}
use Rattle.data_relations.specs.Sets.{AnchorSets}
use Rattle.data_lists.specs.Graphs.{edges_in}
use Rattle.order_reach.proofs.Searching.{Searched}
use Rattle.order_reach.proofs.reach.Given as goal

abbrev pub invariant-loop-done : goal.invariant-loop-done
invariant-loop-done l =
    (length l.rows ≡ 64) × (AnchorSets l.n (edges_in l.es) l.sets → Searched l.es.words.now l.n l._done l.rows l.marks)
