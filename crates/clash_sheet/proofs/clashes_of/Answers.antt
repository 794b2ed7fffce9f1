-- By the status of 8, 10 and 11: nothing refused is 31, a circle is 8, and for 10 and 11 the report is handed out.
use mathlib.Core.Path.{sym, ap, ◌∙◌}
use Rattle.definitions.specs.Numbers.{Status, status_of}
use Rattle.clash_sheet.proofs.Laws.{answered_circle, answered_done, answered_report, held_edges, held_records}
use Rattle.clash_sheet.proofs.clashes_of.Goals as goal

pub judge-requires : goal.judge-requires
judge-requires c = held_edges c.requires

pub returns-then-is_circle : goal.returns-then-is_circle
returns-then-is_circle c q H =
    answered_circle q _ c.in-Err.k (ap (λ (st : Status). status_of st tt) (sym c.in-Err.is) ∙ c.judge.ensures q H.completed) (sym c.is_circle.ensures ∙ c.if-is_circle.true)

pub report-requires : goal.report-requires
report-requires c = held_records c.requires

pub returns-in-Ok : goal.returns-in-Ok
returns-in-Ok c q H = answered_done q _ (ap (λ (st : Status). status_of st tt) (sym c.in-Ok.is) ∙ c.judge.ensures q H.completed)

pub returns-else-is_circle : goal.returns-else-is_circle
returns-else-is_circle c q H =
    answered_report q _ c.in-Err.k (ap (λ (st : Status). status_of st tt) (sym c.in-Err.is) ∙ c.judge.ensures q H.completed) (sym c.is_circle.ensures ∙ c.if-is_circle.false) (c.report.ensures q H.recorded)
