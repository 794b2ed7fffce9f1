-- The invariant: the row, with the offsets of the members left put in, is what is asked for.
use Rattle.plan_deciding.specs.Working.{offset_in, cells_in}
use Rattle.plan_table.proofs.Laws.{Putting}
use Rattle.plan_table.proofs.put_offsets.Given as goal

abbrev pub invariant-loop-a : goal.invariant-loop-a
invariant-loop-a l = Putting l.n (offset_in (cells_in l.t) l.t.leasts.now l.v) l.map l.a-iterator.left l.fn.row l.row
