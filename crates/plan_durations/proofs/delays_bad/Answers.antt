-- An entry that is bad is there; those past the list are not bad.
use Rattle.std.proofs.Common.{sym, ◌∙◌, arith}
use Rattle.laws.proofs.Tests.{any_below_by}
use Rattle.laws.proofs.Searches.{any_below_nothing, any_below_more}
use Rattle.plan_durations.proofs.Laws.{judged, none_outside, outside_there}
use Rattle.plan_durations.proofs.delays_bad.Goals as goal

pub loop-i-init : goal.loop-i-init
loop-i-init c = any_below_nothing _

pub returns-then-delay_bad : goal.returns-then-delay_bad
returns-then-delay_bad c =
    judged (sym (any_below_by _ _ {k = c.loop-i.i} (omega arith) (outside_there _ _ _ _ _ (omega arith) (sym c.delay_bad.ensures ∙ c.if-delay_bad.true))))

pub loop-i-preserved : goal.loop-i-preserved
loop-i-preserved c =
    any_below_more _ _ c.loop-i.invariant (outside_there _ _ _ _ _ (omega arith) (sym c.delay_bad.ensures ∙ c.if-delay_bad.false))

pub returns : goal.returns
returns c = judged (sym (none_outside _ _ _ c.loop-i.i _ (omega arith) c.loop-i.invariant))
