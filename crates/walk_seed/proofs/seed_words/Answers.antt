use borrow.Author.Rules.{rules}
use Rattle.walk_cells.proofs.Tables.{square_own}
use native.Mathlib.Omega.{arith}
use Rattle.walk_seed.proofs.Seeding.{begun_end, begun_more, begun_start}
use Rattle.walk_seed.proofs.seed_words.Goals as goal

pub loop-w-init : goal.loop-w-init
loop-w-init c = (omega arith, begun_start c.args.number.now c.args.es.now c.args.d.now c.requires.square)

pub seed_word-requires : goal.seed_word-requires
seed_word-requires c = let l = c.loop-w in let S = l.invariant.1.square in let p = c.requires in record { row = omega (arith, p.ends l.w-index (search rules), S.rows); square = square_own S; light = p.light l.w-index (search rules) }

pub loop-w-preserved : goal.loop-w-preserved
loop-w-preserved c = (omega arith, begun_more c.args.number.now c.args.es.now c.loop-w.w-index (search rules) c.loop-w.invariant.1 c.seed_word.ensures)

pub shape_of-d : goal.shape_of-d
shape_of-d c = c.loop-w.invariant.1.square.rows

pub returns : goal.returns
returns c = begun_end _ _ _ c.loop-w.invariant.0 (omega arith) c.loop-w.invariant.1
