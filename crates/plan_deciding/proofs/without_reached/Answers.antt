-- A turn compares the smallest member left; at the end none is left.
use Rattle.std.proofs.Common.{◌≡◌, sym, ◌∙◌}
use Rattle.plan_deciding.proofs.Laws.{left_of, one_compared, all_compared}
use Rattle.plan_deciding.proofs.without_reached.Goals as goal

pub loop-a-init : goal.loop-a-init
loop-a-init c =
    let all : c.into_iter-a-iterator.result.left ≡ c.args.given = cc in
    (λ a h. cc, λ p f g a. cc)

pub reaches-out-requires : goal.reaches-out-requires
reaches-out-requires c = (c.in-Some.ensures.steps.0.below, c.requires)

pub remove_if-kept-requires : goal.remove_if-kept-requires
remove_if-kept-requires c = c.in-Some.ensures.steps.0.below

pub loop-a-preserved : goal.loop-a-preserved
loop-a-preserved c =
    let inv = c.loop-a.invariant in
    let member = c.in-Some.ensures.steps.0.member in
    let less = c.in-Some.ensures.steps.1 in
    let x = inv.0 _ member in (
      λ a h. inv.0 a (left_of _ _ _ a (less a) h),
      λ p f g a. one_compared _ _ _ _ _ _ _ _ _ member (c.reaches-out.ensures (f _ x) (g _ x) p) c.remove_if-kept.ensures less a ∙ inv.1 p f g a,
    )

pub returns : goal.returns
returns c p f g a = sym (all_compared _ _ _ _ c.loop-a.a-iterator.left _ c.in-None.ensures.steps.0) ∙ c.loop-a.invariant.1 p f g a
