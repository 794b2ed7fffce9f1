-- Where the companion call goes through, the row stands in the table, and ends within the longest one.
use Rattle.std.proofs.Common.{arith, sym}
use Rattle.laws.proofs.Counts.{row_end}
use Rattle.plan_rows.proofs.Parts.{row_asked, asked_small, asked_part}
use Rattle.plan_rows.proofs.row.Goals as goal

pub overflow_mul-start : goal.overflow_mul-start
overflow_mul-start c = omega (arith, asked_small (row_asked _ _ _ (sym c.in-Ok.ensures)))

pub overflow_add-end : goal.overflow_add-end
overflow_add-end c = omega (arith, asked_small (row_asked _ _ _ (sym c.in-Ok.ensures)))

pub offset_bounds-table-start : goal.offset_bounds-table-start
offset_bounds-table-start c = omega (arith, asked_small (row_asked _ _ _ (sym c.in-Ok.ensures)))

pub slice_bounds-result-end : goal.slice_bounds-result-end
slice_bounds-result-end c =
    let a = row_asked _ _ _ (sym c.in-Ok.ensures) in
    omega (arith, a.long, row_end c.args.n c.args.v a.inside)

pub returns-in-Ok : goal.returns-in-Ok
returns-in-Ok c = asked_part (row_asked _ _ _ (sym c.in-Ok.ensures))
