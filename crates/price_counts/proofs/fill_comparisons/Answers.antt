use Prim.Native.Nat.{◌-◌}
use native.Mathlib.Omega.{arith}
use Rattle.price_counts.proofs.Filling.{filling_more, filling_none}
use Rattle.price_counts.proofs.fill_comparisons.Goals as goal

pub loop-v-init : goal.loop-v-init
loop-v-init c = filling_none

pub loop-v-preserved : goal.loop-v-preserved
loop-v-preserved c = filling_more c.loop-v.invariant c.comparisons-count.ensures (omega arith) c.requires.room
