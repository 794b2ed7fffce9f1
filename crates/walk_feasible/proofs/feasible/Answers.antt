use native.Mathlib.Omega.{arith}
use Rattle.walk_feasible.proofs.Searching.{circle_found, searched_more, searched_rest, searched_room, searched_spent, searched_start}
use Rattle.walk_feasible.proofs.feasible.Goals as goal

pub loop-k-init : goal.loop-k-init
loop-k-init c = searched_start _ _ _ c.requires.few c.below-marks.ensures

pub pass-marks-requires : goal.pass-marks-requires
pass-marks-requires c = (c.requires.few, searched_room _ _ _ (omega (arith, c.requires.few)) c.loop-k.invariant)

pub returns-then-marks-eq0 : goal.returns-then-marks-eq0
returns-then-marks-eq0 c = searched_rest _ _ c.requires.some c.requires.few c.loop-k.invariant c.pass-marks.ensures (omega arith)

pub lowest-x-requires : goal.lowest-x-requires
lowest-x-requires c = omega arith

pub far_back-y-requires : goal.far_back-y-requires
far_back-y-requires c = c.lowest-x.ensures.below

pub closes_above-requires : goal.closes_above-requires
closes_above-requires c = (c.far_back-y.ensures, c.requires.few)

pub returns-then-closes_above : goal.returns-then-closes_above
returns-then-closes_above c = circle_found _ _ c.requires.some (c.closes_above.ensures c.if-closes_above.true)

pub loop-k-preserved : goal.loop-k-preserved
loop-k-preserved c =
    let x = c.lowest-x.ensures in
    searched_more _ _ c.requires.some c.requires.few c.loop-k.invariant c.pass-marks.ensures _ x.below x.member (omega arith)

pub returns-else-closes_above : goal.returns-else-closes_above
returns-else-closes_above c =
    let x = c.lowest-x.ensures in
    let passes = searched_more _ _ c.requires.some c.requires.few c.loop-k.invariant c.pass-marks.ensures _ x.below x.member (omega arith) in
    searched_spent _ _ c.requires.some c.requires.few passes (omega arith)

pub returns : goal.returns
returns c = searched_spent _ _ c.requires.some c.requires.few c.loop-k.invariant (omega arith)
