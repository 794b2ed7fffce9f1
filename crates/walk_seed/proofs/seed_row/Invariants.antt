-- Those that are left are members, and the cells of the other members are seeded.
use Rattle.std.specs.Prelude.{◌≡◌, true, ℕ}
use Rattle.definitions.specs.Basics.{test_bit}
use Rattle.data_edges.specs.Serial.{leasts_in}
use Rattle.walk_seed.specs.Seeds.{Seeded}
use Rattle.walk_seed.proofs.Seeding.{Passed}
use Rattle.walk_seed.proofs.seed_row.Given as goal

abbrev pub invariant-loop-a : goal.invariant-loop-a
invariant-loop-a l =
    ((j : ℕ) → test_bit l.a-iterator.left j ≡ true → test_bit l.map j ≡ true)
    × Seeded (leasts_in l.leasts) l.number (Passed l.v l.map l.a-iterator.left) l.initial.d l.d
