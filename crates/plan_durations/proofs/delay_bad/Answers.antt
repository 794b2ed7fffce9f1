-- By the tests: below the least, or else by the limit of an open step, or 0.
use Rattle.std.proofs.Common.{sym, ◌∙◌, arith}
use Rattle.plan_durations.proofs.Laws.{below_least, from_least}
use Rattle.plan_durations.proofs.delay_bad.Goals as goal

pub returns-then-x-from : goal.returns-then-x-from
returns-then-x-from c = below_least _ _ _ _ (omega arith)

pub returns-then-has : goal.returns-then-has
returns-then-has c = from_least _ _ _ _ _ (omega arith) (sym c.if-has.true ∙ c.has.ensures)

pub returns : goal.returns
returns c = from_least _ _ _ _ _ (omega arith) (sym c.if-has.false ∙ c.has.ensures)
