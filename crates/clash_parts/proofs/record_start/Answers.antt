use mathlib.Core.Path.{◌≡◌, subst}
use Prim.Native.Nat.{◌-◌}
use native.Mathlib.Omega.{arith}
use Rattle.clash_parts.specs.Words.{Begins}
use Rattle.clash_parts.proofs.Starts.{going_last, going_more, going_stops, going_ends}
use Rattle.clash_parts.proofs.record_start.Goals as goal

pub loop-first-init : goal.loop-first-init
loop-first-init c = going_last _ _ _ c.requires.some c.pair_of-pair.ensures

pub returns-then-pair_of-pair : goal.returns-then-pair_of-pair
returns-then-pair_of-pair c = going_stops _ _ _ _ c.loop-first.invariant (omega arith) _ c.pair_of.ensures c.if-pair_of-pair.true

pub loop-first-preserved : goal.loop-first-preserved
loop-first-preserved c = going_more _ _ _ _ c.loop-first.invariant (omega arith) _ c.pair_of.ensures c.if-pair_of-pair.false

pub returns : goal.returns
returns c =
    let front : c.loop-first.first - 1 ≡ 0 = omega arith in
    subst (Begins c.args.es.now c.args.end) front (going_ends _ _ _ _ c.loop-first.invariant front)
