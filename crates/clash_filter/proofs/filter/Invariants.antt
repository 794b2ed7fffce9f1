-- `clash_filter::filter` meets its contract. The loop's invariant is `Working`: of every sheet whose records the words are, the records below k are left to be tried, and those that were tried and stay are kept and noted. What
-- falls is k. What it says of the sheet that there is is `own`.
use Prim.Native.Nat.{◌-◌}
use Rattle.clash_filter.proofs.Working.{Working}
use Rattle.clash_filter.proofs.filter.Given as goal

abbrev pub invariant-loop-k : goal.invariant-loop-k
invariant-loop-k l =
    Working l.n l.records l.es l.part l.kept l.lists l.numbers l.front l.back l.at l.k
