-- 0 for step 0; else the largest term, cut.
use Rattle.std.proofs.Common.{sym, ◌∙◌}
use Rattle.plan_starts.proofs.Laws.{start_at_source, start_at_later}
use Rattle.plan_starts.proofs.start_of.Goals as goal

pub returns-then-v-eq0 : goal.returns-then-v-eq0
returns-then-v-eq0 c = sym (start_at_source _ _ _ _ _ _ _ c.if-v-eq0.true)

pub returns : goal.returns
returns c = c.min.ensures ∙ sym (start_at_later _ _ _ _ _ _ _ _ c.if-v-eq0.false c.latest-most.ensures)
