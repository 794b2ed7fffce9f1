-- By whether the step is open.
use mathlib.Core.Path.{sym, ◌∙◌}
use Rattle.price_counts.proofs.Entries.{large_fixed, large_open}
use Rattle.price_counts.proofs.large.Goals as goal

pub returns-then-not-has : goal.returns-then-not-has
returns-then-not-has c = large_fixed _ _ _ _ (sym c.has.ensures ∙ c.if-not-has.true)

pub returns : goal.returns
returns c =
    large_open _ _ _ _ _ (sym c.has.ensures ∙ c.if-not-has.false) c.largest_offset.ensures
