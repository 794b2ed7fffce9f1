-- The first i link records have been seen, and their cells stand at the front of the list.
use lib.ListN.{take}
use Rattle.write_parts.specs.Parts.{LinksScanned}
use Rattle.write_parts.proofs.scan_links.Given as goal

abbrev pub invariant-loop-i : goal.invariant-loop-i
invariant-loop-i l = LinksScanned l.n (take l.i l.fn.links) l.fn.cells l.seen l.cells
