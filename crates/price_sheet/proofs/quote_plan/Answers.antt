-- A branch for each refusal, and the price where none is met.
use mathlib.Core.Path.{sym, ◌∙◌}
use Rattle.definitions.specs.declared.Refusal.TheVariants.{LargeOffset, TooShort}
use Rattle.price_sheet.proofs.Plans.{large, quotes_priced, quotes_refused, short_comparisons, short_registers}
use Rattle.price_sheet.proofs.quote_plan.Goals as goal

pub returns-then-too_large : goal.returns-then-too_large
returns-then-too_large c v e =
    quotes_refused _ _ _ _ _ _ LargeOffset (large _ _ _ _ _ _ (sym c.too_large.ensures ∙ c.if-too_large.true))

pub returns-then-registers-n : goal.returns-then-registers-n
returns-then-registers-n c v e =
    quotes_refused _ _ _ _ _ _ TooShort (short_registers _ _ _ _ _ _ (sym c.too_large.ensures ∙ c.if-too_large.false) c.if-registers-n.true)

pub returns-then-comparisons-n : goal.returns-then-comparisons-n
returns-then-comparisons-n c v e =
    quotes_refused _ _ _ _ _ _ TooShort (short_comparisons _ _ _ _ _ _ (sym c.too_large.ensures ∙ c.if-too_large.false) c.if-comparisons-n.true)

pub returns : goal.returns
returns c v e =
    quotes_priced _ _ _ _ _ v _ _ e (sym c.too_large.ensures ∙ c.if-too_large.false) c.if-registers-n.false c.if-comparisons-n.false c.fill_registers-register_total.ensures c.fill_comparisons-comparison_total.ensures
