-- The first steps are put.
use Rattle.data_buffers.specs.Texts.{Put, texts}
use Rattle.write_bytes.proofs.Texts.{step_text}
use Rattle.write_bytes.proofs.put_steps.Given as goal

abbrev pub invariant-loop-step : goal.invariant-loop-step
invariant-loop-step l = Put (texts (step_text l.fn.steps) l.step-index) l.at l.p l.fn.out l.out
