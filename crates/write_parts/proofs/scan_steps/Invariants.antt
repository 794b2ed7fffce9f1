-- The first i steps have been seen.
use lib.ListN.{take}
use Rattle.write_parts.specs.Parts.{StepsScanned}
use Rattle.write_parts.proofs.scan_steps.Given as goal

abbrev pub invariant-loop-i : goal.invariant-loop-i
invariant-loop-i l = StepsScanned (take l.i l.fn.steps) l.seen
