-- What reading refused is refused; else the report holds the sheet's steps, and what is given of these is the sheet's. Bytes are below 256.
use borrow.Author.Rules.{rules}
use Rattle.std.proofs.lemmas.Result.{err_from_is_err_and}
use Rattle.read_fields.proofs.Counts.{room_any}
use Rattle.read_sheet.proofs.Whole.{whole}
use Rattle.run_sheet.specs.Steps.{memory}
use Rattle.run_sheet.proofs.Laws.{steps_unread, steps_whole, whole_counted}
use Rattle.run_sheet.proofs.steps.Goals as goal

pub read-requires : goal.read-requires
read-requires c = record { room = room_any _; blank = search rules }

pub returns-in_err-report : goal.returns-in_err-report
returns-in_err-report c =
    let a = c.args in
    let p = err_from_is_err_and c.from_residual.result c.from_residual.ensures.1 in
    rw (p.1, p.2) (steps_unread a.s.now (memory a.n.now a.unbounded.now a.leasts.now) _ c.in_err-report.ensures)

pub give-requires : goal.give-requires
give-requires c = whole_counted (whole c.args.s.now _ _ _ (λ i. (c.type_inv.s i).fits) c.in_ok-report.ensures)

pub returns : goal.returns
returns c =
    let a = c.args in
    steps_whole (whole a.s.now _ _ _ (λ i. (c.type_inv.s i).fits) c.in_ok-report.ensures) (memory a.n.now a.unbounded.now a.leasts.now) c.give.ensures
