use mathlib.Core.Path.{◌≡◌}
use native.Mathlib.Omega.{arith}
use mir.Facts.{to_z-of_z}
use Rattle.walk_cells.proofs.Tables.{square_then}
use Rattle.walk_lift.proofs.Lifting.{lifted_four, lifted_start, liftable_turn}
use Rattle.walk_lift.proofs.lift.Goals as goal

pub loop-k-init : goal.loop-k-init
loop-k-init c = (omega arith, omega arith, lifted_start _ _ _ _ c.requires.target.square)

pub lift_cell-requires : goal.lift_cell-requires
lift_cell-requires c = liftable_turn _ c.loop-k-test.true c.ranges.delta c.requires c.loop-k.invariant.2.square

pub lift_cell-requires-in-loop-k : goal.lift_cell-requires-in-loop-k
lift_cell-requires-in-loop-k c =
    liftable_turn _ (omega (arith, c.loop-k.invariant.1, c.requires.movable.fours)) c.ranges.delta c.requires
    (square_then c.loop-k.invariant.2.square c.lift_cell.ensures.0.square)

pub lift_cell-requires-in-loop-k-2 : goal.lift_cell-requires-in-loop-k-2
lift_cell-requires-in-loop-k-2 c =
    liftable_turn _ (omega (arith, c.loop-k.invariant.1, c.requires.movable.fours)) c.ranges.delta c.requires
    (square_then (square_then c.loop-k.invariant.2.square c.lift_cell.ensures.0.square) c.lift_cell-in-loop-k.ensures.0.square)

pub lift_cell-requires-in-loop-k-3 : goal.lift_cell-requires-in-loop-k-3
lift_cell-requires-in-loop-k-3 c =
    liftable_turn _ (omega (arith, c.loop-k.invariant.1, c.requires.movable.fours)) c.ranges.delta c.requires
    (square_then (square_then (square_then c.loop-k.invariant.2.square c.lift_cell.ensures.0.square) c.lift_cell-in-loop-k.ensures.0.square) c.lift_cell-in-loop-k-2.ensures.0.square)

pub loop-k-preserved : goal.loop-k-preserved
loop-k-preserved c = (
  omega (arith, c.loop-k.invariant.1, c.requires.movable.fours),
  omega (arith, c.loop-k.invariant.1),
  lifted_four c.loop-k.invariant.2 c.lift_cell.ensures.0 c.lift_cell-in-loop-k.ensures.0 c.lift_cell-in-loop-k-2.ensures.0 c.lift_cell-in-loop-k-3.ensures.0,
)

pub returns : goal.returns
returns c = let e : c.loop-k.k ≡ c.args.width = omega arith in rw (e, to_z-of_z c.ranges.delta) at c.loop-k.invariant.2
