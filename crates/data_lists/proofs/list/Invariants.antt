-- `data_lists::list` meets its contract. Invariant: the lists of the first k words, their returns behind, and the place of the next return.
use mathlib.Core.Path.{◌≡◌}
use lib.ListN.{length}
use Rattle.data_lists.proofs.Appending.{Listing}
use Rattle.data_lists.proofs.list.Given as goal

abbrev pub invariant-loop-k : goal.invariant-loop-k
invariant-loop-k l = (length l.lists ≡ length l.fn.lists) × Listing l.es l.lists l.k l.at
