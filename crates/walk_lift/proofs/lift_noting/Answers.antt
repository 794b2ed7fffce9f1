use mathlib.Core.Path.{◌≡◌, refl, ◌∙◌}
use native.Mathlib.Omega.{arith}
use mir.Facts.{to_z-of_z}
use borrow.Author.Rules.{sfits_of}
use Rattle.walk_cells.proofs.Tables.{square_then}
use Rattle.walk_lift.proofs.Lifting.{all_none, lifted_four, lifted_start, liftable_turn, none_noted}
use Rattle.walk_lift.proofs.lift_noting.Goals as goal

pub loop-k-init : goal.loop-k-init
loop-k-init c = (omega arith, omega arith, lifted_start _ _ _ _ c.requires.target.square, λ z₀ z₁ z₂ z₃ j. refl)

pub lift_cell-g0-requires : goal.lift_cell-g0-requires
lift_cell-g0-requires c = liftable_turn _ c.loop-k-test.true c.ranges.delta c.requires c.loop-k.invariant.2.square

pub lift_cell-g1-requires : goal.lift_cell-g1-requires
lift_cell-g1-requires c =
    liftable_turn _ (omega (arith, c.loop-k.invariant.1, c.requires.movable.fours)) c.ranges.delta c.requires
    (square_then c.loop-k.invariant.2.square c.lift_cell-g0.ensures.0.square)

pub lift_cell-g2-requires : goal.lift_cell-g2-requires
lift_cell-g2-requires c =
    liftable_turn _ (omega (arith, c.loop-k.invariant.1, c.requires.movable.fours)) c.ranges.delta c.requires
    (square_then (square_then c.loop-k.invariant.2.square c.lift_cell-g0.ensures.0.square) c.lift_cell-g1.ensures.0.square)

pub lift_cell-g3-requires : goal.lift_cell-g3-requires
lift_cell-g3-requires c =
    liftable_turn _ (omega (arith, c.loop-k.invariant.1, c.requires.movable.fours)) c.ranges.delta c.requires
    (square_then (square_then (square_then c.loop-k.invariant.2.square c.lift_cell-g0.ensures.0.square) c.lift_cell-g1.ensures.0.square) c.lift_cell-g2.ensures.0.square)

pub loop-k-preserved : goal.loop-k-preserved
loop-k-preserved c = (
  omega (arith, c.loop-k.invariant.1, c.requires.movable.fours),
  omega (arith, c.loop-k.invariant.1),
  lifted_four c.loop-k.invariant.2 c.lift_cell-g0.ensures.0 c.lift_cell-g1.ensures.0 c.lift_cell-g2.ensures.0 c.lift_cell-g3.ensures.0,
  λ z₀ z₁ z₂ z₃ j.
      let p₀ = none_noted _ c.loop-k.auto.g0-fits (sfits_of c.lift_cell-g0.type_inv) c.lift_cell-g0.ensures.1 z₀ in
      let p₁ = none_noted _ c.loop-k.auto.g1-fits (sfits_of c.lift_cell-g1.type_inv) c.lift_cell-g1.ensures.1 z₁ in
      let p₂ = none_noted _ c.loop-k.auto.g2-fits (sfits_of c.lift_cell-g2.type_inv) c.lift_cell-g2.ensures.1 z₂ in
      let p₃ = none_noted _ c.loop-k.auto.g3-fits (sfits_of c.lift_cell-g3.type_inv) c.lift_cell-g3.ensures.1 z₃ in
      p₃.1 j ∙ p₂.1 j ∙ p₁.1 j ∙ p₀.1 j ∙ c.loop-k.invariant.3 p₀.0 p₁.0 p₂.0 p₃.0 j,
)

pub returns : goal.returns
returns c =
    let e : c.loop-k.k ≡ c.args.width = omega arith in
    (rw (e, to_z-of_z c.ranges.delta) at c.loop-k.invariant.2, λ q. all_none _ _ _ _ q c.loop-k.invariant.3)
