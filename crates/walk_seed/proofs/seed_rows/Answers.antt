use Rattle.walk_cells.proofs.Tables.{square_own}
use native.Mathlib.Omega.{arith}
use Rattle.data_edges.specs.Serial.{leasts_in}
use Rattle.walk_seed.specs.Seeds.{Seeded}
use Rattle.walk_seed.proofs.Seeding.{Below, below_more, below_start}
use Prim.Native.Nat.{ℕ}
use mathlib.Core.Path.{◌≡◌, subst}
use Rattle.walk_seed.proofs.seed_rows.Goals as goal

pub loop-v-init : goal.loop-v-init
loop-v-init c = below_start (leasts_in c.args.leasts.now) c.args.number.now c.args.sets.now c.args.d.now c.requires.square

pub seed_row-requires : goal.seed_row-requires
seed_row-requires c = let S = c.loop-v.invariant.square in (omega (arith, c.requires.inside, S.rows), square_own S)

pub loop-v-preserved : goal.loop-v-preserved
loop-v-preserved c = below_more (leasts_in c.args.leasts.now) c.args.number.now c.args.sets.now c.loop-v.v c.loop-v.invariant c.seed_row.ensures

pub shape_of-d : goal.shape_of-d
shape_of-d c = c.loop-v.invariant.square.rows

pub returns : goal.returns
returns c =
    let args = c.args in
    let e : c.loop-v.v ≡ args.n = omega arith in
    subst (λ (x : ℕ). Seeded (leasts_in args.leasts.now) args.number.now (Below args.sets.now x) args.d.now c.loop-v.d) e c.loop-v.invariant
