-- Row v lies inside the table, and the part that is lent is that row.
use Rattle.std.proofs.Common.{sym, ◌∙◌}
use Rattle.run_ready.proofs.TableRows.{ready_started, ready_part}
use Rattle.run_ready.proofs.is_ready.Goals as goal

pub returns-then-has : goal.returns-then-has
returns-then-has c = sym (ready_started _ _ _ (sym c.has.ensures ∙ c.if-has.true))

pub returns : goal.returns
returns c = c.row_due.ensures ∙ ready_part _ _ _ (sym c.has.ensures ∙ c.if-has.false) c.requires.exists c.requires.long
