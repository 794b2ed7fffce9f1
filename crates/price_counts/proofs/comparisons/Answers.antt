use Prim.Native.Nat.{◌-◌}
use native.Mathlib.Omega.{arith}
use Rattle.price_counts.proofs.Entries.{compared_all, compared_more, compared_none, one_small}
use Rattle.price_counts.proofs.comparisons.Goals as goal

pub loop-a-init : goal.loop-a-init
loop-a-init c = (compared_none _ _ _, omega arith)

pub loop-a-preserved : goal.loop-a-preserved
loop-a-preserved c =
    let l = c.loop-a in
    (compared_more _ _ _ l.a l.count c.entry-x.result c.one_for-count.result l.invariant.0 c.entry-x.ensures c.one_for-count.ensures, omega (arith, one_small c.entry-x.result _ c.one_for-count.ensures, l.invariant.1))

pub returns : goal.returns
returns c = record { value = compared_all _ _ _ _ _ (omega arith) c.loop-a.invariant.0; small = omega arith }
