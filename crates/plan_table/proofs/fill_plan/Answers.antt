-- A row at a time, each behind those before it.
use Rattle.std.proofs.Common.{◌≡◌, arith}
use lib.ListN.{length-take, length-drop}
use borrow.Author.Rules.{rules}
use Rattle.laws.proofs.Counts.{square_small}
use Rattle.plan_table.proofs.Laws.{clear_length, first_rows_more, first_rows_none, in_table, planned, row_clear}
use Rattle.plan_table.proofs.fill_plan.Goals as goal

pub overflow_mul-n : goal.overflow_mul-n
overflow_mul-n c = omega (arith, square_small _ c.requires.rows.few)

pub loop-v-init : goal.loop-v-init
loop-v-init c = (clear_length _ _ _ c.requires.room c.clear.ensures, λ T. first_rows_none _ _ _ _ _)

pub overflow_mul-at : goal.overflow_mul-at
overflow_mul-at c = omega (arith, in_table {v = c.loop-v.v} _ _ (omega arith) c.requires.rows.few c.requires.room c.loop-v.invariant.0)

pub offset_bounds-table-at : goal.offset_bounds-table-at
offset_bounds-table-at c = omega (arith, in_table {v = c.loop-v.v} _ _ (omega arith) c.requires.rows.few c.requires.room c.loop-v.invariant.0)

pub slice_bounds-fill_row-count : goal.slice_bounds-fill_row-count
slice_bounds-fill_row-count c = omega (arith, in_table {v = c.loop-v.v} _ _ (omega arith) c.requires.rows.few c.requires.room c.loop-v.invariant.0)

pub slice_bounds-fill_row-start : goal.slice_bounds-fill_row-start
slice_bounds-fill_row-start c = omega (arith, in_table {v = c.loop-v.v} _ _ (omega arith) c.requires.rows.few c.requires.room c.loop-v.invariant.0)

pub fill_row-requires : goal.fill_row-requires
fill_row-requires c =
    let p = c.requires in
    let t = in_table {v = c.loop-v.v} _ _ (omega arith) p.rows.few p.room c.loop-v.invariant.0 in
    (record { own = record { below = omega (arith, p.rows.few); inside = omega (arith, p.rows.inside); square = p.rows.square }; members = λ a. p.members _ a (omega arith) }, record { few = p.rows.few; fits = simp (length-take, length-drop) (omega (arith, t)) })

pub loop-v-preserved : goal.loop-v-preserved
loop-v-preserved c =
    let t = in_table {v = c.loop-v.v} _ _ (omega arith) c.requires.rows.few c.requires.room c.loop-v.invariant.0 in
    let before = c.loop-v.invariant.1 in (
      search rules,
      λ T. first_rows_more _ _ _ _ _ _ _ _ (before T) (c.fill_row.ensures (T _ (omega arith)) (row_clear _ _ _ _ _ _ _ _ (omega arith) t.room c.clear.ensures (before T))),
    )

pub returns : goal.returns
returns c =
    let e : c.loop-v.v ≡ c.args.n = omega arith in
    planned _ c.requires.rows.few c.clear.ensures (λ T. rw e at (c.loop-v.invariant.1 T))
