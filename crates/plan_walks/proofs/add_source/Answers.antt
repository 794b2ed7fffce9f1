use Rattle.std.proofs.Common.{◌≡◌, arith, rules}
use Rattle.plan_walks.proofs.Sourcing.{sourced_none, sourced_more}
use Rattle.plan_walks.proofs.add_source.Goals as goal

pub loop-v-init : goal.loop-v-init
loop-v-init c = λ long. sourced_none long

pub loop-v-preserved : goal.loop-v-preserved
loop-v-preserved c =
    λ long. sourced_more _ _ _ _ _ _ c.insert-set.ensures c.below-all.ensures c.both.ensures (search rules) (c.loop-v.invariant long)

pub returns : goal.returns
returns c =
    let e : c.loop-v.v ≡ c.args.n = omega arith in
    λ long v a b. (c.loop-v.invariant long).made v a (omega (arith, e))
