use mathlib.Core.Path.{◌≡◌}
use native.Mathlib.Omega.{arith}
use Rattle.walk_take.proofs.Taking.{copied_four, copied_start, gathered_four, takeable_turn, taken_end}
use Rattle.walk_take.proofs.take.Goals as goal

pub loop-k-init : goal.loop-k-init
loop-k-init c = (omega arith, omega arith, copied_start _ _ c.requires.0.long, λ b l₀ l₁ l₂ l₃ j q. absurd (omega arith))

pub copy_cell-t0-requires : goal.copy_cell-t0-requires
copy_cell-t0-requires c = takeable_turn _ c.loop-k-test.true c.requires.0 c.loop-k.invariant.2.long

pub copy_cell-t1-requires : goal.copy_cell-t1-requires
copy_cell-t1-requires c = takeable_turn _ (omega (arith, c.loop-k.invariant.1, c.requires.1)) c.requires.0 c.copy_cell-t0.ensures.long

pub copy_cell-t2-requires : goal.copy_cell-t2-requires
copy_cell-t2-requires c = takeable_turn _ (omega (arith, c.loop-k.invariant.1, c.requires.1)) c.requires.0 c.copy_cell-t1.ensures.long

pub copy_cell-t3-requires : goal.copy_cell-t3-requires
copy_cell-t3-requires c = takeable_turn _ (omega (arith, c.loop-k.invariant.1, c.requires.1)) c.requires.0 c.copy_cell-t2.ensures.long

pub loop-k-preserved : goal.loop-k-preserved
loop-k-preserved c =
    let e₀ = c.copy_cell-t0.ensures in
    let e₁ = c.copy_cell-t1.ensures in
    let e₂ = c.copy_cell-t2.ensures in
    let e₃ = c.copy_cell-t3.ensures in (
      omega (arith, c.loop-k.invariant.1, c.requires.1),
      omega (arith, c.loop-k.invariant.1),
      copied_four e₀ e₁ e₂ e₃ c.loop-k.invariant.2,
      gathered_four e₀ e₁ e₂ e₃ c.loop-k.t0 c.loop-k.t1 c.loop-k.t2 c.loop-k.t3 c.loop-k.invariant.3,
    )

pub returns : goal.returns
returns c =
    let e : c.loop-k.k ≡ c.args.width = omega arith in
    rw e at (taken_end _ _ _ _ c.loop-k.invariant.1 c.loop-k.invariant.2 c.loop-k.invariant.3)
