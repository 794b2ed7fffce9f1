use mathlib.Core.Path.{refl}
use native.Mathlib.Omega.{arith}
use Rattle.walk_cells.proofs.Tables.{held_more}
use Rattle.walk_sweep.proofs.Sweeping.{network_then, swept_all, swept_down, swept_none, swept_part}
use Rattle.walk_sweep.proofs.sweep.Goals as goal

pub loop-k-init : goal.loop-k-init
loop-k-init c = (omega arith, swept_none c.requires.network.linked.square (λ v o. absurd (omega (arith, o.0, o.1))), refl)

pub returns-then-left-eq0 : goal.returns-then-left-eq0
returns-then-left-eq0 c = swept_all c.if-left-eq0.true (omega arith) c.loop-k.invariant.1

pub hand_on-left-requires : goal.hand_on-left-requires
hand_on-left-requires c =
    let p = c.requires in
    let S = c.loop-k.invariant.1.square in
    let u = c.next_step-u.ensures.0 in
    record { below = omega (arith, u, p.few); inside = omega (arith, u, p.inside, S.rows); few = p.narrow; network = network_then p.network S; held = held_more (omega (arith, c.loop-k.invariant.0, p.room, p.few)) (c.loop-k.invariant.1.held p.level p.held); long = c.loop-k.invariant.2 }

pub loop-k-preserved : goal.loop-k-preserved
loop-k-preserved c =
    (omega arith, swept_down _ _ _ _ c.next_step-u.ensures.1 (omega arith) c.loop-k.invariant.0 c.loop-k.invariant.1 c.hand_on-left.ensures.0, c.hand_on-left.ensures.1)

pub returns : goal.returns
returns c = swept_part (λ v x. (omega arith, x)) (omega arith) c.loop-k.invariant.1
