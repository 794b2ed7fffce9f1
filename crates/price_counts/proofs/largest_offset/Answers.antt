use Prim.Native.Nat.{◌-◌}
use native.Mathlib.Omega.{arith}
use Rattle.price_counts.proofs.Entries.{most_all, most_more, most_none}
use Rattle.price_counts.proofs.largest_offset.Goals as goal

pub loop-v-init : goal.loop-v-init
loop-v-init c = most_none _ _ _

pub loop-v-preserved : goal.loop-v-preserved
loop-v-preserved c =
    let l = c.loop-v in
    most_more _ _ _ l.v l.most c.entry-x.result c.offset_of.result _ l.invariant c.entry-x.ensures c.offset_of.ensures (grind (arith, c.max-most.ensures))

pub returns : goal.returns
returns c = most_all _ _ _ _ _ (omega arith) c.loop-v.invariant
