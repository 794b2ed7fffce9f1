use native.Mathlib.Omega.{arith}
use mathlib.Core.Path.{sym}
use mathlib.Core.Bool.{true≢false}
use borrow.Author.Tests.{ltb-true}
use Rattle.walk_feasible.proofs.Circles.{back_closed, back_more, back_start}
use Rattle.walk_feasible.proofs.closes_above.Goals as goal

pub loop-k-init : goal.loop-k-init
loop-k-init c = back_start _ _ _ c.requires.0

pub bounds-via-v : goal.bounds-via-v
bounds-via-v c = omega (arith, c.loop-k.invariant.below)

pub returns-then-not-enters : goal.returns-then-not-enters
returns-then-not-enters c = λ h. absurd (true≢false (sym h))

pub overflow_sub-w : goal.overflow_sub-w
overflow_sub-w c = omega (arith, (c.enters.ensures c.if-not-enters.false).some)

pub offset_bounds-es-i : goal.offset_bounds-es-i
offset_bounds-es-i c = omega (arith, (c.enters.ensures c.if-not-enters.false).inside)

pub bounds-es-i : goal.bounds-es-i
bounds-es-i c = let h = c.enters.ensures c.if-not-enters.false in omega (arith, h.some, h.inside)

pub overflow_add-gains : goal.overflow_add-gains
overflow_add-gains c = omega (arith, c.loop-k.invariant.light, c.loop-k.invariant.inside, c.edge_gain-gains.ensures.1, c.requires.1)

pub overflow_add-losses : goal.overflow_add-losses
overflow_add-losses c = omega (arith, c.loop-k.invariant.small, c.loop-k.invariant.inside, c.edge_loss-losses.ensures.1, c.requires.1)

pub returns-then-v-x : goal.returns-then-v-x
returns-then-v-x c = λ t.
    back_closed _ _ _ _ _ _ _ _ c.loop-k.invariant (c.enters.ensures c.if-not-enters.false) c.edge_from-v.ensures.0 c.edge_gain-gains.ensures.0 c.edge_loss-losses.ensures.0 c.if-v-x.true (ltb-true _ _ t)

pub loop-k-preserved : goal.loop-k-preserved
loop-k-preserved c =
    let gain = c.edge_gain-gains.ensures in
    let loss = c.edge_loss-losses.ensures in
    back_more _ _ _ _ _ _ _ _ c.loop-k.invariant (c.enters.ensures c.if-not-enters.false) c.edge_from-v.ensures.0 gain.0 loss.0 c.loop-k-test.true c.edge_from-v.ensures.1 gain.1 loss.1

pub returns : goal.returns
returns c = λ h. absurd (true≢false (sym h))
