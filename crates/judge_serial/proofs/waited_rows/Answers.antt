use native.Mathlib.Omega.{arith}
use mathlib.Core.Path.{◌≡◌, ap₂, ◌∙◌}
use mathlib.Core.Bool.{Bool, ◌&&◌, ◌||◌}
use Prim.Native.Nat.{ℕ}
use lib.Dec.{ltb}
use Rattle.data_relations.specs.Rows.{row_bit}
use Rattle.data_relations.proofs.Gathering.{made_no_row, made_row}
use Rattle.judge_serial.proofs.Waited.{both_bits}
use Rattle.judge_serial.proofs.waited_rows.Goals as goal

pub loop-v-init : goal.loop-v-init
loop-v-init c = made_no_row (both_bits c.predecessors.new.before c.args.maps.now)

pub loop-v-preserved : goal.loop-v-preserved
loop-v-preserved c =
    made_row (both_bits c.predecessors.new.before c.args.maps.now) c.union-row.result (omega arith) c.loop-v.invariant (λ k. c.union-row.ensures k)

pub returns : goal.returns
returns c =
    let e : c.loop-v.v ≡ c.args.n = omega arith in
    (c.loop-v.invariant.long, λ v u. c.loop-v.invariant.bits v u ∙ ap₂ (λ (x : ℕ) (b : Bool). ltb v x && (b || row_bit c.args.maps.now v u)) e (c.predecessors.ensures.0.bits v u))
