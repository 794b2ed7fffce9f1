-- `walk_seed::seed_rows` meets its contract. Invariant: the rows below v are seeded.
use Rattle.data_edges.specs.Serial.{leasts_in}
use Rattle.walk_seed.specs.Seeds.{Seeded}
use Rattle.walk_seed.proofs.Seeding.{Below}
use Rattle.walk_seed.proofs.seed_rows.Given as goal

abbrev pub invariant-loop-v : goal.invariant-loop-v
invariant-loop-v l = Seeded (leasts_in l.leasts) l.number (Below l.sets l.v) l.fn.d l.d
