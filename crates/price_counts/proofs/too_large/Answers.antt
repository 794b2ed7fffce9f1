use mathlib.Core.Path.{◌≡◌, sym, ◌∙◌}
use Prim.Native.Nat.{◌-◌}
use native.Mathlib.Omega.{arith}
use Rattle.laws.proofs.Searches.{any_below_more, any_below_nothing}
use Rattle.laws.proofs.Tests.{any_below_by}
use Rattle.price_counts.proofs.Entries.{large_some}
use Rattle.price_counts.proofs.too_large.Goals as goal

pub loop-a-init : goal.loop-a-init
loop-a-init c = any_below_nothing _

pub returns-then-large : goal.returns-then-large
returns-then-large c =
    sym (any_below_by _ _ {k = c.loop-a.a} (omega arith) (sym c.large.ensures ∙ c.if-large.true)) ∙ large_some _ _ _

pub loop-a-preserved : goal.loop-a-preserved
loop-a-preserved c =
    any_below_more _ _ c.loop-a.invariant (sym c.large.ensures ∙ c.if-large.false)

pub returns : goal.returns
returns c =
    let e : c.loop-a.a ≡ c.args.n = omega arith in
    sym (rw e at c.loop-a.invariant) ∙ large_some _ _ _
