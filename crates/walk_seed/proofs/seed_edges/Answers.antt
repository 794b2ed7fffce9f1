-- `walk_seed::seed_edges` meets its contract.
use Rattle.walk_seed.proofs.Seeding.{begun_idle}
use Rattle.walk_seed.proofs.seed_edges.Goals as goal

pub returns-then-begins_some : goal.returns-then-begins_some
returns-then-begins_some c = c.seed_words.ensures

pub returns-else-begins_some : goal.returns-else-begins_some
returns-else-begins_some c = begun_idle _ c.args.es.now _ c.requires.square (c.begins_some.ensures c.if-begins_some.false)
