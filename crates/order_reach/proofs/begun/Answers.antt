-- `order_reach::begun` meets its contract.
use mathlib.Core.Path.{sym, ◌∙◌}
use Rattle.laws.proofs.Bools.{cond_false, cond_true}
use Rattle.order_reach.proofs.begun.Goals as goal

pub returns-then-is_counted : goal.returns-then-is_counted
returns-then-is_counted c = sym (cond_true _ _ (sym c.is_counted.ensures ∙ c.if-is_counted.true))

pub returns-else-is_counted : goal.returns-else-is_counted
returns-else-is_counted c = sym (cond_false _ _ (sym c.is_counted.ensures ∙ c.if-is_counted.false))
