-- `order_reach::visit` meets its contract.
use mathlib.Core.Path.{sym, ◌∙◌}
use Rattle.order_reach.proofs.Passing.{visited, visited_idle}
use Rattle.order_reach.proofs.visit.Goals as goal

pub returns-then-not-has : goal.returns-then-not-has
returns-then-not-has c = visited_idle _ c.told-rows (sym c.has.ensures ∙ c.if-not-has.true)

pub returns : goal.returns
returns c = visited _ c.remove-rest.ensures c.push_edges.ensures
