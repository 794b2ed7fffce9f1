-- Each early return is a refusal in its order, 16, 2, 14; what passes them is swept.
use Rattle.std.proofs.Common.{sym, ◌∙◌}
use Rattle.definitions.specs.Dispatcher.{fresh}
use Rattle.run_calls.proofs.CallLaws.{count_fits, table_enough, leasts_enough, returns_as, swept_source, room, begin_begun, begin_count, begin_short, begin_given}
use Rattle.run_calls.proofs.begin.Goals as goal

pub returns-then-has : goal.returns-then-has
returns-then-has c = returns_as c.refusal.ensures (begin_begun _ _ _ _ _ (sym c.has.ensures ∙ c.if-has.true))

pub returns-then-wrong_count : goal.returns-then-wrong_count
returns-then-wrong_count c =
    returns_as c.refusal-then-wrong_count.ensures (begin_count _ _ _ _ _ (sym c.has.ensures ∙ c.if-has.false) (sym c.wrong_count.ensures ∙ c.if-wrong_count.true))

pub too_little-requires : goal.too_little-requires
too_little-requires c = count_fits _ (sym c.wrong_count.ensures ∙ c.if-wrong_count.false)

pub returns-then-too_little : goal.returns-then-too_little
returns-then-too_little c =
    returns_as c.refusal-then-too_little.ensures (begin_short _ _ _ _ _ (sym c.has.ensures ∙ c.if-has.false) (sym c.wrong_count.ensures ∙ c.if-wrong_count.false) (sym c.too_little.ensures ∙ c.if-too_little.true))

pub fresh-requires : goal.fresh-requires
fresh-requires c =
    record { few = count_fits _ (sym c.wrong_count.ensures ∙ c.if-wrong_count.false); long = leasts_enough _ _ _ (sym c.too_little.ensures ∙ c.if-too_little.false) }

pub sweep-swept-requires : goal.sweep-swept-requires
unfolding fresh
sweep-swept-requires c =
    room _ c.fresh.ensures (count_fits _ (sym c.wrong_count.ensures ∙ c.if-wrong_count.false)) (table_enough _ _ _ (sym c.too_little.ensures ∙ c.if-too_little.false))

pub returns : goal.returns
returns c =
    swept_source c.sweep-swept.ensures c.fresh.ensures (begin_given _ _ _ _ _ (sym c.has.ensures ∙ c.if-has.false) (sym c.wrong_count.ensures ∙ c.if-wrong_count.false) (sym c.too_little.ensures ∙ c.if-too_little.false))
