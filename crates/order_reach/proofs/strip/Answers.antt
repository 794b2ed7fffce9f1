use native.Mathlib.Omega.{arith}
use Rattle.data_relations.proofs.Gathering.{made_row}
use Rattle.order_reach.proofs.Returning.{stripped, stripped_end, stripped_start}
use Rattle.order_reach.proofs.strip.Goals as goal

pub loop-v-init : goal.loop-v-init
loop-v-init c = stripped_start c.args.sets.now _ c.requires.1

pub offset_bounds-rows-v : goal.offset_bounds-rows-v
offset_bounds-rows-v c = omega (arith, c.loop-v.invariant.long)

pub bounds-rows-v : goal.bounds-rows-v
bounds-rows-v c = omega (arith, c.loop-v.invariant.long)

pub loop-v-preserved : goal.loop-v-preserved
loop-v-preserved c = made_row (stripped c.args.sets.now) _ (omega arith) c.loop-v.invariant c.remove.ensures

pub returns : goal.returns
returns c = stripped_end c.args.sets.now _ _ _ (omega arith) (omega arith) c.loop-v.invariant
