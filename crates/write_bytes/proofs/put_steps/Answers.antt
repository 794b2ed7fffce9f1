use mathlib.Core.Path.{◌≡◌, ap, subst, sym, ◌∙◌}
use Prim.Native.Nat.{◌+◌, ◌≤◌, ◌<◌}
use native.Mathlib.Omega.{arith}
use lib.ListN.{length, length-take}
use Rattle.definitions.specs.Writer.{operation_bytes}
use Rattle.definitions.specs.declared.Operation.{Operation}
use Rattle.data_buffers.specs.Texts.{texts}
use Rattle.data_buffers.proofs.Writing.{put_as, put_none, next_room, next_text}
use Rattle.write_bytes.proofs.Texts.{step_here, step_text, steps_listed, steps_room}
use Rattle.write_bytes.proofs.put_steps.Goals as goal

pub loop-step-init : goal.loop-step-init
loop-step-init c = unfold texts in put_none _ _

pub put_step-p-requires : goal.put_step-p-requires
put_step-p-requires c =
    let b : c.loop-step.step-index < c.args.n = omega (arith, length-take c.args.n c.args.steps) in
    subst
    (λ (o : Operation). c.loop-step.p + length (operation_bytes o) ≤ length c.loop-step.out)
    (sym (step_here c.args.steps c.args.n c.loop-step.step-index _ c.loop-step-test.true))
    (next_room (step_text c.args.steps) c.args.n c.loop-step.step-index c.loop-step.invariant b (steps_room c.requires (omega (arith, c.requires.few))))

pub loop-step-preserved : goal.loop-step-preserved
loop-step-preserved c =
    let b : c.loop-step.step-index < c.args.n = omega (arith, length-take c.args.n c.args.steps) in
    let here = step_here c.args.steps c.args.n c.loop-step.step-index _ c.loop-step-test.true in
    next_text (step_text c.args.steps) c.args.n c.loop-step.step-index c.loop-step.invariant b (steps_room c.requires (omega (arith, c.requires.few))) (put_as (ap operation_bytes here) c.put_step-p.ensures)

pub returns : goal.returns
returns c =
    let long : c.args.n ≤ length c.args.steps = omega (arith, c.requires.few) in
    let e : c.loop-step.step-index ≡ c.args.n = omega (arith, length-take c.args.n c.args.steps) in
    put_as (ap (texts (step_text c.args.steps)) e ∙ steps_listed c.args.steps c.args.n long) c.loop-step.invariant
