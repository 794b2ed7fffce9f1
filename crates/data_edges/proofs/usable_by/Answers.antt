-- `data_edges::usable_by` meets its contract: a late edge takes its end out of the map, and another leaves it as it is.
use mathlib.Core.Path.{sym, ◌∙◌}
use Rattle.data_edges.specs.Words.{unpack}
use Rattle.data_edges.proofs.Users.{users_late, users_timely}
use Rattle.data_edges.proofs.usable_by.Goals as goal

pub returns-then-is_late : goal.returns-then-is_late
returns-then-is_late c =
    users_late _ _ _ (unpack c.args.w)
    (sym c.is_late.ensures ∙ c.if-is_late.true)
    c.edge_to.ensures.0
    c.remove.ensures

pub returns : goal.returns
returns c = users_timely _ (unpack c.args.w) (sym c.is_late.ensures ∙ c.if-is_late.false)
