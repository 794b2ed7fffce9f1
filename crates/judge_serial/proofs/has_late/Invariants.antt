-- `judge_serial::has_late` meets its contract. Invariant: the union of the words passed over is late where one of them is.
use Rattle.judge_serial.proofs.Late.{Seen}
use Rattle.judge_serial.proofs.has_late.Given as goal

abbrev pub invariant-loop-w : goal.invariant-loop-w
invariant-loop-w l = Seen l.es l.w-index l.seen
