-- A record more is one turn of `Stepping`; the first refused one is the answer, and so is the end of the row.
use mathlib.Core.Path.{◌∙◌}
use native.Mathlib.Omega.{arith}
use lib.ListN.{length-set}
use Rattle.std.proofs.lemmas.Result.{err_from_is_err_and}
use Rattle.read_steps.proofs.Leasts.{blank_long, leasts_long}
use Rattle.read_steps.proofs.Stepping.{stepping_none, stepping_more, stepping_refused, stepping_all}
use Rattle.read_steps.proofs.read_operations.Goals as goal

pub loop-i-init : goal.loop-i-init
loop-i-init c = (c.requires.begins, c.requires.long, blank_long c.requires.blank, stepping_none _ _ _ _ c.requires.blank)

pub loop-i-preserved : goal.loop-i-preserved
loop-i-preserved c =
    let l = c.loop-i in
    let step = c.in_ok-step.ensures in (
      step.inside,
      length-set l.digits l.i _ ∙ l.invariant.1,
      leasts_long l.i _ l.leasts _ step.put ∙ l.invariant.2,
      stepping_more _ _ l.i _ l.digits l.leasts l.unbounded l.invariant.3 _ _ _ _ _ step.same step.adds (omega arith) (omega (arith, l.invariant.1)) (omega (arith, l.invariant.2)) step.put c.insert_if-unbounded.ensures,
    )

pub returns-in_err-step : goal.returns-in_err-step
returns-in_err-step c =
    let l = c.loop-i in
    let p = err_from_is_err_and c.from_residual.result c.from_residual.ensures.1 in
    rw (p.1, p.2) (stepping_refused _ _ l.i _ l.digits l.leasts l.unbounded l.invariant.3 (omega arith) _ c.in_err-step.ensures)

pub returns : goal.returns
returns c =
    let l = c.loop-i in
    stepping_all _ _ _ l.i l.next l.digits l.leasts l.unbounded l.invariant.3 (omega arith) l.invariant.0
