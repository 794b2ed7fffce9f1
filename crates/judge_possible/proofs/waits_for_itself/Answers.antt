-- `judge_possible::waits_for_itself` meets its contract: by what reaches what, or because no return brings anything new.
use mathlib.Core.Path.{sym}
use Rattle.judge_edges.proofs.Judging.{stripped_consistent}
use Rattle.judge_possible.proofs.waits_for_itself.Goals as goal

pub returns-then-not-reach : goal.returns-then-not-reach
returns-then-not-reach c p =
    sym (stripped_consistent _ _ p.passes c.requires.some p.shape (c.reach.ensures.walks p.anchors) p.anchors (c.reach.ensures.nothing_new c.if-not-reach.true))
