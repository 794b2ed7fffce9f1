-- `walk_seed::seed_word` meets its contract: an edge that is not counted, or gains nothing, begins no walk.
use native.Mathlib.Omega.{arith}
use mathlib.Core.Path.{sym, ◌∙◌}
use Rattle.data_edges.specs.Words.{unpack}
use Rattle.walk_seed.proofs.Seeding.{begun_light, begun_uncounted}
use Rattle.walk_seed.proofs.seed_word.Goals as goal

pub returns-then-not-is_counted : goal.returns-then-not-is_counted
returns-then-not-is_counted c = begun_uncounted c.args.number.now (unpack c.args.w) c.args.d.now c.requires.square (sym c.is_counted.ensures ∙ c.if-not-is_counted.true)

pub returns-then-edge_gain-edge_loss : goal.returns-then-edge_gain-edge_loss
returns-then-edge_gain-edge_loss c = begun_light c.args.number.now (unpack c.args.w) c.args.d.now c.requires.square (omega (arith, c.edge_gain.ensures.0, c.edge_loss.ensures.0, c.if-edge_gain-edge_loss.true))

pub seed_edge-requires : goal.seed_edge-requires
seed_edge-requires c =
    let p = c.requires in
    record { placed = p; counts = sym c.is_counted.ensures ∙ c.if-not-is_counted.false }

pub returns : goal.returns
returns c = c.seed_edge.ensures
