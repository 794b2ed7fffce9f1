use Prim.Native.Nat.{◌-◌}
use native.Mathlib.Omega.{arith}
use Rattle.price_counts.proofs.Filling.{filling_more, filling_none}
use Rattle.price_counts.proofs.fill_registers.Goals as goal

pub loop-a-init : goal.loop-a-init
loop-a-init c = filling_none

pub loop-a-preserved : goal.loop-a-preserved
loop-a-preserved c = filling_more c.loop-a.invariant c.registers-count.ensures (omega arith) c.requires.room
