use native.Mathlib.Omega.{arith}
use Rattle.order_steps.proofs.Placing.{placing_all, placing_none, placing_stuck}
use Rattle.order_steps.proofs.arrange.Goals as goal

pub loop-front-init : goal.loop-front-init
loop-front-init c = placing_none c.requires.1 c.below.ensures

pub returns-then-next-front : goal.returns-then-next-front
returns-then-next-front c = placing_stuck (omega (arith, c.loop-front-test.true)) (omega arith) c.loop-front.invariant c.pass-next.ensures

pub loop-front-smaller : goal.loop-front-smaller
loop-front-smaller c = omega (arith, c.loop-front-test.true, c.pass-next.ensures.further, c.if-next-front.false)

pub loop-front-preserved : goal.loop-front-preserved
loop-front-preserved c = c.pass-next.ensures.placing

pub returns : goal.returns
returns c = placing_all (omega (arith, c.loop-front-test.false)) c.loop-front.invariant
