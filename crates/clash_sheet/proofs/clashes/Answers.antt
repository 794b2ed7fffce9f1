-- What reading refused is refused; else the words hold the sheet, and what is answered of it is the sheet's.
use borrow.Author.Rules.{rules}
use Rattle.std.proofs.lemmas.Result.{err_from_is_err_and}
use Rattle.read_fields.proofs.Counts.{room_any}
use Rattle.read_sheet.proofs.Whole.{whole}
use Rattle.clash_sheet.proofs.Laws.{few_unread, few_whole, whole_held, whole_holding}
use Rattle.clash_sheet.proofs.clashes.Goals as goal

pub read-requires : goal.read-requires
read-requires c = record { room = room_any _; blank = search rules }

pub returns-in_err-report : goal.returns-in_err-report
returns-in_err-report c =
    let p = err_from_is_err_and c.from_residual.result c.from_residual.ensures.1 in
    rw (p.1, p.2) (few_unread c.args.s.now c.args.list.now _ c.in_err-report.ensures)

pub clashes_of-requires : goal.clashes_of-requires
clashes_of-requires c = whole_held (whole c.args.s.now _ _ _ (λ i. (c.type_inv.s i).fits) c.in_ok-report.ensures)

pub returns : goal.returns
returns c =
    let w = whole c.args.s.now _ _ _ (λ i. (c.type_inv.s i).fits) c.in_ok-report.ensures in
    few_whole w _ (c.clashes_of.ensures w.found.whole (whole_holding w))
