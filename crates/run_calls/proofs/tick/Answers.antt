-- Each early return is a refusal in its order, 15, 14, 18; what passes them is swept.
use Rattle.std.proofs.Common.{sym, ◌∙◌}
use Rattle.definitions.specs.Dispatcher.{ticked}
use Rattle.run_calls.proofs.CallLaws.{running_count, long_enough, returns_as, swept_given, room, tick_idle, tick_short, tick_end, tick_given}
use Rattle.run_calls.proofs.tick.Goals as goal

pub returns-then-is_idle : goal.returns-then-is_idle
returns-then-is_idle c = returns_as c.refusal.ensures (tick_idle _ _ (sym c.is_idle.ensures ∙ c.if-is_idle.true))

pub is_short-requires : goal.is_short-requires
is_short-requires c = running_count _ (sym c.is_idle.ensures ∙ c.if-is_idle.false)

pub returns-then-is_short : goal.returns-then-is_short
returns-then-is_short c =
    returns_as c.refusal-then-is_short.ensures (tick_short _ _ (sym c.is_idle.ensures ∙ c.if-is_idle.false) (sym c.is_short.ensures ∙ c.if-is_short.true))

pub returns-then-st : goal.returns-then-st
returns-then-st c =
    returns_as c.refusal-then-st.ensures (tick_end _ _ (sym c.is_idle.ensures ∙ c.if-is_idle.false) (sym c.is_short.ensures ∙ c.if-is_short.false) c.if-st.true)

pub sweep-requires : goal.sweep-requires
unfolding ticked
sweep-requires c =
    room _ c.ticked.ensures (running_count _ (sym c.is_idle.ensures ∙ c.if-is_idle.false)) (long_enough _ _ (sym c.is_short.ensures ∙ c.if-is_short.false))

pub returns : goal.returns
returns c =
    swept_given c.sweep.ensures c.ticked.ensures (tick_given _ _ (sym c.is_idle.ensures ∙ c.if-is_idle.false) (sym c.is_short.ensures ∙ c.if-is_short.false) c.if-st.false)
