-- `judge_serial::waited_rows` meets its contract. Invariant: the rows below v are made.
use Rattle.data_relations.proofs.Gathering.{Made}
use Rattle.judge_serial.proofs.Waited.{both_bits}
use Rattle.judge_serial.proofs.waited_rows.Given as goal

abbrev pub invariant-loop-v : goal.invariant-loop-v
invariant-loop-v l = Made (both_bits l.before l.maps) l.v l.rows
