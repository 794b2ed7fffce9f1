use mathlib.Core.Path.{sym, ◌∙◌}
use Rattle.plan_deciding.proofs.Laws.{all_left_out, part_of, sieving_less, sieving_start, sieving_turn}
use native.Mathlib.Omega.{arith}
use Rattle.plan_deciding.proofs.deciding_set.Goals as goal

pub loop-left-init : goal.loop-left-init
loop-left-init c = (λ b h. h, λ T. sieving_start _ _ _)

pub without_covered-kept-requires : goal.without_covered-kept-requires
without_covered-kept-requires c =
    let p = c.requires in
    record { own = p.own; over = record { below = c.highest-b.ensures.below; inside = p.members _ (c.loop-left.invariant.0 _ c.highest-b.ensures.member); square = p.own.square } }

pub remove-less-requires : goal.remove-less-requires
remove-less-requires c = c.highest-b.ensures.below

pub loop-left-smaller : goal.loop-left-smaller
loop-left-smaller c = sieving_less _ _ _ _ _ c.highest-b.ensures.member c.remove-less.ensures c.both-left.ensures

pub loop-left-preserved : goal.loop-left-preserved
loop-left-preserved c =
    let inv = c.loop-left.invariant in (
      λ a h. inv.0 a (part_of _ _ _ _ _ a (c.remove-less.ensures a) (c.both-left.ensures a) h),
      λ T. sieving_turn _ _ _ _ _ _ _ _ _ c.highest-b.ensures.below c.highest-b.ensures.member c.remove-less.ensures c.both-left.ensures c.without_covered-kept.ensures T (inv.1 T),
    )

pub returns : goal.returns
returns c T a = sym (all_left_out _ _ _ T _ c.loop-left.left _ (omega arith)) ∙ (c.loop-left.invariant.1 T).same a
