use mathlib.Core.List.{List, []}
use mathlib.Core.Path.{refl}
use Prim.Native.Nat.{ℕ}
use native.Mathlib.Omega.{arith}
use Rattle.definitions.specs.Waits.{wait_edge}
use Rattle.walk_cells.proofs.Tables.{square_own}
use Rattle.walk_cells.proofs.Values.{gain_delta, gain_small}
use Rattle.walk_edge.proofs.Handing.{handed_row, timely_columns, timely_on}
use Rattle.walk_sweep.proofs.Handing.{left_within, told_end, told_start, told_turn}
use Rattle.walk_sweep.proofs.push_waits.Goals as goal

pub loop-i-init : goal.loop-i-init
loop-i-init c = rw (c.into_iter-i-iterator.ensures.into_iter_gives, c.members-i-items.ensures) (λ j h. h, λ u number. told_start _ _ _ _ _ _ _ c.requires.square)

pub raise_by-left-requires : goal.raise_by-left-requires
raise_by-left-requires c =
    let p = c.requires in
    let low = c.in-Some.ensures.steps.0 in
    let S = (c.loop-i.invariant.1 0 []).square in (
      low.below,
      record {
        target = record { row = omega (arith, p.inside c.in-Some.i (c.loop-i.invariant.0 c.in-Some.i low.member), S.rows); few = p.few; square = square_own S };
        movable = p.movable;
        small = gain_small c.args.least (omega (arith, c.ranges.least.fits));
      },
    )

-- The step that is told has handed on along its wait.
pub loop-i-preserved : goal.loop-i-preserved
loop-i-preserved c =
    let a = c.args in
    let low = c.in-Some.ensures.steps.0 in
    let less = c.in-Some.ensures.steps.1 in
    let handed = λ (u : ℕ) (number : List ℕ).
    let wait = wait_edge (λ b. a.least) (record { anchor = u; target = c.in-Some.i }) in
    handed_row wait number a.row.now a.width c.requires.movable _ _ _ _ _ _ _ (omega (arith, c.ranges.least.fits)) refl (gain_delta a.least) c.raise_by-left.ensures (timely_on a.width) (timely_columns wait number _ refl) in
    (left_within _ _ _ _ c.loop-i.invariant.0 less, λ u number. told_turn _ _ _ _ _ _ _ _ _ _ _ _ _ _ c.loop-i.invariant.0 low.member less (c.loop-i.invariant.1 u number) (handed u number))

pub shape_of-d : goal.shape_of-d
shape_of-d c = (c.loop-i.invariant.1 0 []).square.rows

pub returns : goal.returns
returns c = λ u number. told_end _ _ _ _ _ _ _ _ _ _ c.in-None.ensures.steps.0 (c.loop-i.invariant.1 u number)
