-- `judge_waits::count_waits` meets its contract. Invariant: the total is the sum of the members of the maps passed over.
use mathlib.Core.Path.{◌≡◌}
use lib.ListN.{length, get_or}
use Rattle.definitions.specs.Basics.{select_below, sum_below, test_bit}
use Rattle.judge_waits.proofs.count_waits.Given as goal

abbrev pub invariant-loop-i : goal.invariant-loop-i
invariant-loop-i l = l.total ≡ sum_below (λ k. length (select_below (test_bit (get_or l.maps k 0)) 64)) l.i
