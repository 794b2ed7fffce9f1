-- i of the r records are read (`Edged`): those read, in front of those left, give the answer of the whole, the first count words stand for the edges of those read, and `entered` is the map of the steps that they lead
-- into.
use mathlib.Core.Path.{◌≡◌}
use lib.ListN.{length, drop}
use Rattle.read_records.proofs.Edging.{Edged}
use Rattle.read_records.proofs.read_links.Given as goal

abbrev pub invariant-loop : goal.invariant-loop
invariant-loop l = (length l.words ≡ length l.initial.words) × Edged l.digits l.n l.r l.part l.counter l.last (drop l.next l.part) l.words l.count l.entered
