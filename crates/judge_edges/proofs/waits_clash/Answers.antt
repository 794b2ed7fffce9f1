-- `judge_edges::waits_clash` meets its contract: where no waits are needed, none clash.
use mathlib.Core.Path.{ap, sym, ◌∙◌}
use mathlib.Core.Bool.{not, not-not}
use lib.Dec.{ltb}
use Rattle.definitions.specs.Waits.{needs_waits}
use Rattle.demands.proofs.Sheets.{unneeded_serializable}
use Rattle.judge_edges.proofs.waits_clash.Goals as goal

pub returns-then-count-eq0 : goal.returns-then-count-eq0
unfolding needs_waits
returns-then-count-eq0 c w count = sym (unneeded_serializable _ w.well w.acyclic (ap (ltb 0) (sym count ∙ c.if-count-eq0.true)))

pub returns : goal.returns
returns c w count = ap not (c.can_serialize.ensures w) ∙ not-not _
