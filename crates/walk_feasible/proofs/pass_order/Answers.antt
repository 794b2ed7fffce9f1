use native.Mathlib.Omega.{arith}
use mathlib.Core.Logic.{inl}
use Rattle.definitions.specs.Limits.{most_steps}
use Rattle.walk_feasible.proofs.Passing.{passed_idle, passed_less, passed_room, passed_then}
use Rattle.walk_feasible.proofs.pass_order.Goals as goal

pub loop-x-init : goal.loop-x-init
loop-x-init c = passed_less (λ v x. absurd x) (omega arith) (passed_idle c.told-row c.told-via)

pub pass_step-m-requires : goal.pass_step-m-requires
pass_step-m-requires c =
    (c.place.ensures.1, passed_room c.loop-x.x-index 1 most_steps (omega (arith, c.requires.0)) c.requires.1 c.loop-x.invariant)

pub loop-x-preserved : goal.loop-x-preserved
loop-x-preserved c = passed_then (λ v x. inl x) (omega arith) c.loop-x.invariant c.pass_step-m.ensures

pub returns : goal.returns
returns c = passed_less (λ v x. x) (omega (arith, c.requires.0)) c.loop-x.invariant
