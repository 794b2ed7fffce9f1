use native.Mathlib.Omega.{arith}
use mathlib.Core.Path.{◌≡◌, ap, ◌∙◌}
use Rattle.definitions.specs.Basics.{any_below}
use Rattle.data_relations.specs.Rows.{row_bit}
use Rattle.walk_seed.proofs.Numbering.{union_more, union_none}
use Rattle.walk_seed.proofs.all_members.Goals as goal

pub loop-v-init : goal.loop-v-init
loop-v-init c = union_none c.args.sets.now

pub loop-v-preserved : goal.loop-v-preserved
loop-v-preserved c =
    λ a. union_more c.args.sets.now c.loop-v.v c.loop-v.all c.union-all.result a (c.loop-v.invariant a) (c.union-all.ensures a)

pub returns : goal.returns
returns c =
    let e : c.loop-v.v ≡ c.args.n = omega arith in
    λ a. c.loop-v.invariant a ∙ ap (any_below (λ w. row_bit c.args.sets.now w a)) e
