-- The number that is read, or its refusal, is put through the laws of Parts.
use mathlib.Core.Path.{ap, sym, ◌∙◌}
use Rattle.std.proofs.lemmas.Result.{err_from_is_err_and}
use Rattle.read_steps.specs.Leaving.{added}
use Rattle.read_steps.specs.Parts.{slow}
use Rattle.read_steps.proofs.Parts.{slow_there, slow_refused}
use Rattle.read_steps.proofs.Taking.{taken_slow}
use Rattle.read_steps.proofs.slow_step.Goals as goal

pub returns-in_err-least : goal.returns-in_err-least
returns-in_err-least c =
    let p = err_from_is_err_and c.from_residual.result c.from_residual.ensures.1 in
    rw (p.1, p.2) (slow_refused _ (sym c.in_err-least.ensures.same))

pub returns : goal.returns
returns c =
    let item = c.in_ok-least.ensures in
    taken_slow slow _ _ _ _ _ _ item.inside _ c.requires.other (slow_there _ (sym item.same)) (c.added_by.ensures ∙ ap (added _) c.lasting.ensures)
