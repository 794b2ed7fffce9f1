-- The invariant: the first k are decoded.
use mathlib.Core.Path.{◌≡◌}
use lib.ListN.{length, take}
use Rattle.write_numbers.specs.Decoding.{steps_in}
use Rattle.write_numbers.proofs.steps_from.Given as goal

abbrev pub invariant-loop-k : goal.invariant-loop-k
invariant-loop-k l = (length l.steps ≡ 64) × (take l.k l.steps ≡ take l.k (steps_in l.numbers))
