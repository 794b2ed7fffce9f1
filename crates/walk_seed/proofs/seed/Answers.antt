-- `walk_seed::seed` meets its contract: numbers for the members, then their seeds, then the edges that begin walks.
use Rattle.walk_cells.proofs.Tables.{square_own}
use native.Mathlib.Omega.{arith}
use Rattle.walk_seed.proofs.Seeding.{prepared}
use Rattle.walk_seed.proofs.seed.Goals as goal

pub seed_edges-requires : goal.seed_edges-requires
seed_edges-requires c =
    let S = c.seed_rows.ensures.square in
    record { ends = λ k b. omega (arith, c.requires.ends k b, S.rows); square = square_own S; light = c.requires.light }

pub returns : goal.returns
returns c =
    let all = c.all_members-all in
    prepared c.args.sets.now c.args.n all.result c.requires.bare all.ensures c.number_members-width.ensures c.seed_rows.ensures c.seed_edges.ensures
