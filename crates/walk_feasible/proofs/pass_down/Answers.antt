use native.Mathlib.Omega.{arith}
use borrow.Author.Rules.{rules}
use Rattle.walk_feasible.proofs.Passing.{falling_end, falling_less, falling_room, falling_start, falling_turn}
use Rattle.walk_feasible.proofs.pass_down.Goals as goal

pub loop-left-init : goal.loop-left-init
loop-left-init c = falling_start _ _ _ (search rules) c.told-row c.told-via

pub highest-last-requires : goal.highest-last-requires
highest-last-requires c = omega arith

pub pass_step-m-requires : goal.pass_step-m-requires
pass_step-m-requires c =
    let h = c.highest-last.ensures in
    (h.below, falling_room _ _ _ _ _ _ _ c.loop-left.invariant _ h c.requires)

pub below-requires : goal.below-requires
below-requires c = let b = c.highest-last.ensures.below in omega arith

pub loop-left-smaller : goal.loop-left-smaller
loop-left-smaller c = falling_less _ _ _ _ _ _ _ c.loop-left.invariant _ c.highest-last.ensures

pub loop-left-preserved : goal.loop-left-preserved
loop-left-preserved c =
    falling_turn _ _ _ _ _ _ _ c.loop-left.invariant _ c.highest-last.ensures _ _ _ _ _ c.pass_step-m.ensures c.below.ensures c.both-left.ensures

pub returns : goal.returns
returns c = falling_end _ _ _ _ _ _ _ c.loop-left.invariant (omega arith)
