-- The number is read and its edge pushed, or it is cut off.
use mathlib.Core.Path.{sym}
use Rattle.std.proofs.lemmas.Result.{err_from_is_err_and}
use Rattle.read_links.proofs.Pushing.{push_as}
use Rattle.read_links.proofs.push_bound.Goals as goal

pub returns-in_err-ticks : goal.returns-in_err-ticks
returns-in_err-ticks c =
    let p = err_from_is_err_and c.from_residual.result c.from_residual.ensures.1 in
    rw (p.1, p.2) (sym c.in_err-ticks.ensures.same)

pub returns : goal.returns
returns c =
    let item = c.in_ok-ticks.ensures in
    record { ticks = c.in_ok-ticks.ticks.value; same = sym item.same; inside = item.inside; pushed = push_as c.bound_word-w.ensures c.push.ensures.pushed }
