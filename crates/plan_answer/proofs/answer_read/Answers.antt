-- `plan_answer::answer_read` meets its contract: what reading refused is refused; else the words hold the sheet's edges, and the answer of these is the sheet's.
use Rattle.std.proofs.Common.{refl, sym}
use lib.Seq.{length-take-le}
use Rattle.read_sheet.proofs.Whole.{whole}
use Rattle.plan_answer.proofs.Calls.{given_answers, refused_answers, sheet_responds}
use Rattle.plan_answer.proofs.Held.{held_sheet}
use Rattle.plan_answer.proofs.answer_read.Goals as goal

pub returns-in-Err : goal.returns-in-Err
returns-in-Err c =
    refused_answers c.args.s.now (rw c.in-Err.is at c.requires.0) c.args.question c.args.asked.allow c.args.asked.list.now c.args.out.now refl c.requires.1 refl

pub slice_bounds-answer_edges-end : goal.slice_bounds-answer_edges-end
slice_bounds-answer_edges-end c =
    let found = rw c.in-Ok.is at c.requires.0 in
    sym (length-take-le _ _ found.holds.within)

pub answer_edges-requires : goal.answer_edges-requires
answer_edges-requires c =
    let w = whole c.args.s.now _ _ _ (λ i. (c.shared_slice_known-1.given i).fits) (rw c.in-Ok.is at c.requires.0) in
    (held_sheet w.fits w.found.holds, c.requires.1)

pub returns : goal.returns
returns c =
    let args = c.args in
    let w = whole args.s.now _ _ _ (λ i. (c.shared_slice_known-1.given i).fits) (rw c.in-Ok.is at c.requires.0) in
    given_answers args.s.now w.found.is_given args.question args.asked.allow args.asked.list.now args.out.now
    (sheet_responds w.fits w.found.holds args.question args.asked.allow args.asked.list.now args.out.now c.answer_edges.ensures)
