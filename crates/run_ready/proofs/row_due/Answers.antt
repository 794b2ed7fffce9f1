use Rattle.std.proofs.Common.{sym, ◌∙◌}
use Rattle.run_ready.proofs.RowLaws.{passed_none, passed_over, passed_due, not_due, passed_all}
use Rattle.run_ready.proofs.row_due.Goals as goal
use Rattle.run_ready.proofs.row_due.Goals.{then-offset+else-not-is_due, else-offset}

pub loop-a-init : goal.loop-a-init
loop-a-init c = passed_none

pub returns-then-not-is_due : goal.returns-then-not-is_due
returns-then-not-is_due c = sym (not_due c.loop-a.invariant c.loop-a-test.true c.if-offset.true (sym c.is_due.ensures ∙ c.if-not-is_due.true))

pub loop-a-preserved : goal.loop-a-preserved
loop-a-preserved c =
    elim c.if-offset.branch [
      | then-offset+else-not-is_due w ↦ rw w.named-is (passed_due c.loop-a.invariant c.loop-a-test.true w.if-offset.true (sym w.is_due.ensures ∙ w.if-not-is_due.false))
      | else-offset w ↦ rw w.named-is (passed_over c.loop-a.invariant c.loop-a-test.true w.if-offset.false)
    ]

pub returns : goal.returns
returns c = passed_all c.loop-a.invariant c.loop-a.auto.a-end c.loop-a-test.false
