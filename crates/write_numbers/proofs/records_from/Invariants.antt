-- The invariant: the first k are decoded.
use mathlib.Core.Path.{◌≡◌}
use lib.ListN.{length, take}
use Rattle.write_numbers.specs.Decoding.{records_in}
use Rattle.write_numbers.proofs.records_from.Given as goal

abbrev pub invariant-loop-k : goal.invariant-loop-k
invariant-loop-k l = (length l.links ≡ 512) × (take l.k l.links ≡ take l.k (records_in l.numbers))
