-- Each early return is a refusal in its order, 15, 14, 17, 20; what passes them is swept.
use Rattle.std.proofs.Common.{sym, ◌∙◌, arith}
use Rattle.definitions.specs.Dispatcher.{ended}
use Rattle.run_calls.proofs.CallLaws.{running_count, finishable_below, long_enough, returns_as, swept_given, room, finish_idle, finish_short, finish_cannot, finish_early, finish_given}
use Rattle.run_calls.proofs.finish.Goals as goal

pub returns-then-is_idle : goal.returns-then-is_idle
returns-then-is_idle c = returns_as c.refusal.ensures (finish_idle _ _ _ (sym c.is_idle.ensures ∙ c.if-is_idle.true))

pub is_short-requires : goal.is_short-requires
is_short-requires c = running_count _ (sym c.is_idle.ensures ∙ c.if-is_idle.false)

pub returns-then-is_short : goal.returns-then-is_short
returns-then-is_short c =
    returns_as c.refusal-then-is_short.ensures (finish_short _ _ _ (sym c.is_idle.ensures ∙ c.if-is_idle.false) (sym c.is_short.ensures ∙ c.if-is_short.true))

pub not_finishable-requires : goal.not_finishable-requires
not_finishable-requires c = running_count _ (sym c.is_idle.ensures ∙ c.if-is_idle.false)

pub returns-then-not_finishable : goal.returns-then-not_finishable
returns-then-not_finishable c =
    returns_as c.refusal-then-not_finishable.ensures (finish_cannot _ _ _ (sym c.is_idle.ensures ∙ c.if-is_idle.false) (sym c.is_short.ensures ∙ c.if-is_short.false) (sym c.not_finishable.ensures ∙ c.if-not_finishable.true))

pub is_early-requires : goal.is_early-requires
is_early-requires c =
    omega (arith, running_count _ (sym c.is_idle.ensures ∙ c.if-is_idle.false), finishable_below _ _ (sym c.not_finishable.ensures ∙ c.if-not_finishable.false))

pub returns-then-is_early : goal.returns-then-is_early
returns-then-is_early c =
    returns_as c.refusal-then-is_early.ensures (finish_early _ _ _ (sym c.is_idle.ensures ∙ c.if-is_idle.false) (sym c.is_short.ensures ∙ c.if-is_short.false) (sym c.not_finishable.ensures ∙ c.if-not_finishable.false) (sym c.is_early.ensures ∙ c.if-is_early.true))

pub ended-requires : goal.ended-requires
ended-requires c =
    omega (arith, running_count _ (sym c.is_idle.ensures ∙ c.if-is_idle.false), finishable_below _ _ (sym c.not_finishable.ensures ∙ c.if-not_finishable.false))

pub sweep-requires : goal.sweep-requires
unfolding ended
sweep-requires c =
    room _ c.ended.ensures (running_count _ (sym c.is_idle.ensures ∙ c.if-is_idle.false)) (long_enough _ _ (sym c.is_short.ensures ∙ c.if-is_short.false))

pub returns : goal.returns
returns c =
    swept_given c.sweep.ensures c.ended.ensures (finish_given _ _ _ (sym c.is_idle.ensures ∙ c.if-is_idle.false) (sym c.is_short.ensures ∙ c.if-is_short.false) (sym c.not_finishable.ensures ∙ c.if-not_finishable.false) (sym c.is_early.ensures ∙ c.if-is_early.false))
