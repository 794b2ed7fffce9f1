use mathlib.Core.Path.{◌≡◌, sym, ◌∙◌}
use native.Mathlib.Omega.{arith}
use borrow.Author.Rules.{rules}
use Rattle.laws.proofs.Searches.{any_below_more, any_below_nothing}
use Rattle.laws.proofs.Tests.{any_below_by}
use Rattle.data_relations.proofs.has_loop.Goals as goal

pub loop-v-init : goal.loop-v-init
loop-v-init c = any_below_nothing _

pub returns-then-has : goal.returns-then-has
returns-then-has c = sym (any_below_by _ _ {k = c.loop-v.v} (search rules) (sym c.has.ensures ∙ c.if-has.true))

pub loop-v-preserved : goal.loop-v-preserved
loop-v-preserved c = any_below_more _ _ c.loop-v.invariant (sym c.has.ensures ∙ c.if-has.false)

pub returns : goal.returns
returns c =
    let e : c.loop-v.v ≡ c.args.n = omega arith in
    sym (rw e at c.loop-v.invariant)
