-- N and R, then the steps, then the link records, make the report; or one of them is refused. The link records stand in the part of the bytes from the middle on.
use mathlib.Core.Path.{sym, ◌∙◌}
use native.Mathlib.Omega.{arith}
use Rattle.std.proofs.lemmas.Result.{err_from_is_err_and}
use Rattle.laws.proofs.Parsers.{part_rest}
use Rattle.read_sheet.proofs.Parts.{steps_refused}
use Rattle.read_sheet.proofs.Rows.{report_found, pairs_refused}
use Rattle.read_sheet.proofs.read.Goals as goal

pub returns-in_err-head : goal.returns-in_err-head
returns-in_err-head c =
    let p = err_from_is_err_and c.from_residual.result c.from_residual.ensures.1 in
    rw (p.1, p.2) c.in_err-head.ensures

pub returns-in_err-steps : goal.returns-in_err-steps
returns-in_err-steps c =
    let p = err_from_is_err_and c.from_residual-in_err-steps.result c.from_residual-in_err-steps.ensures.1 in
    rw (p.1, p.2) (sym c.in_ok-head.ensures.same ∙ steps_refused _ _ _ c.in_err-steps.ensures)

pub returns-in_err-links : goal.returns-in_err-links
returns-in_err-links c =
    let s = c.args.s.now in
    let p = err_from_is_err_and c.from_residual-in_err-links.result c.from_residual-in_err-links.ensures.1 in
    let refused = rw (part_rest s c.in_ok-steps.steps.next) at c.in_err-links.ensures in
    rw (p.1, p.2) (pairs_refused _ s _ _ _ _ _ c.in_ok-head.ensures c.in_ok-steps.ensures refused)

pub returns : goal.returns
returns c =
    let s = c.args.s.now in
    let heads = c.in_ok-head.ensures in
    let found = rw (part_rest s c.in_ok-steps.steps.next) at c.in_ok-links.ensures in
    report_found _ s _ _ _ _ _ heads c.in_ok-steps.ensures _ _ found (record { steps = heads.steps; room = omega (arith, heads.room, c.requires.room) })
