use Rattle.std.proofs.Common.{rules, arith, ◌≡◌}
use Rattle.walk_seed.proofs.Numbering.{numbering_end, numbering_more, numbering_start}
use Rattle.walk_seed.proofs.number_members.Goals as goal

pub loop-a-init : goal.loop-a-init
loop-a-init c = let e : c.into_iter-a-iterator.result.left ≡ c.args.all = search rules in rw e (numbering_start _ c.requires)

pub overflow_add-width : goal.overflow_add-width
overflow_add-width c = let low = c.in-Some.ensures.steps.0 in omega (arith, c.loop-a.invariant.ahead _ low.member, low.below)

pub loop-a-preserved : goal.loop-a-preserved
loop-a-preserved c = let steps = c.in-Some.ensures.steps in numbering_more _ steps.0 steps.1 c.loop-a.invariant

pub returns : goal.returns
returns c = let e : c.from.result ≡ c.loop-a.width = search rules in rw e (numbering_end c.in-None.ensures.steps.0 c.loop-a.invariant)
