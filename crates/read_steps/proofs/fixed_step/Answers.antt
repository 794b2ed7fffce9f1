-- The number that is read, or its refusal, is put through the laws of Parts.
use mathlib.Core.Path.{ap, sym, ◌∙◌}
use Rattle.std.proofs.lemmas.Result.{err_from_is_err_and}
use Rattle.read_steps.specs.Leaving.{added}
use Rattle.read_steps.specs.Parts.{fixed}
use Rattle.read_steps.proofs.Parts.{fixed_there, fixed_refused}
use Rattle.read_steps.proofs.Taking.{taken_fixed}
use Rattle.read_steps.proofs.fixed_step.Goals as goal

pub returns-in_err-ticks : goal.returns-in_err-ticks
returns-in_err-ticks c leasts =
    let p = err_from_is_err_and c.from_residual.result c.from_residual.ensures.1 in
    rw (p.1, p.2) (fixed_refused _ (sym c.in_err-ticks.ensures.same))

pub returns : goal.returns
returns c leasts =
    let item = c.in_ok-ticks.ensures in
    taken_fixed fixed _ _ _ leasts _ _ item.inside _ (fixed_there _ (sym item.same)) (c.added_by.ensures ∙ ap (added _) c.timed.ensures)
