use mathlib.Core.Path.{◌≡◌, subst}
use Prim.Native.Nat.{ℕ}
use native.Mathlib.Omega.{arith}
use lib.ListN.{length}
use borrow.Author.Tests.{eqb-true, not-false}
use Rattle.laws.proofs.Maps.{or_above}
use Rattle.walk_seed.specs.Seeds.{Idle}
use Rattle.walk_seed.proofs.Seeding.{idle_more}
use Rattle.walk_seed.proofs.begins_some.Goals as goal

pub loop-w-init : goal.loop-w-init
loop-w-init c = (omega arith, λ z j b. absurd (omega arith))

pub loop-w-preserved : goal.loop-w-preserved
loop-w-preserved c =
    let gain = c.counted_gain-all in
    let both = or_above c.loop-w.all gain.result in
    (omega arith, λ z. idle_more c.args.es.now c.loop-w.w-index gain.result (c.loop-w.invariant.1 (omega (arith, both.0))) gain.ensures (omega (arith, both.1)))

pub returns : goal.returns
returns c none =
    let es = c.args.es.now in
    let e : c.loop-w.w-index ≡ length es = omega arith in
    subst (λ (x : ℕ). Idle es x) e (c.loop-w.invariant.1 (eqb-true _ _ (not-false _ none)))
