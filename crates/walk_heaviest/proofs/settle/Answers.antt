-- `walk_heaviest::settle` meets its contract: what the first sweep leaves, and where it is possible the sweeps after it.
use Prim.Native.Nat.{◌-◌}
use native.Mathlib.Omega.{arith}
use mathlib.Core.Path.{refl, sym, ◌∙◌}
use Rattle.laws.proofs.Bools.{both_ways}
use Rattle.data_edges.specs.Serial.{leasts_in}
use Rattle.definitions.specs.Limits.{most_steps}
use Rattle.walk_cells.proofs.Tables.{held_more}
use Rattle.walk_sweep.proofs.Sweeping.{sweepable_later}
use Rattle.walk_heaviest.proofs.Settled.{settling_opened}
use Rattle.walk_heaviest.proofs.settle.Goals as goal

pub sweep_first-marks-requires : goal.sweep_first-marks-requires
sweep_first-marks-requires c = let p = c.requires in sweepable_later 0 1 p (omega arith) p.network.linked.square (held_more (omega arith) p.held)

pub returns-then-not-possible : goal.returns-then-not-possible
returns-then-not-possible c =
    record {
      square = c.sweep_first-marks.ensures.swept.square;
      settled = λ q. absurd (both_ways q refl);
      told = λ shape rooted rest. sym c.if-not-possible.true ∙ c.possible.ensures shape rooted (rest c.sweep_first-marks.new.d c.sweep_first-marks.result c.sweep_first-marks.ensures);
    }

pub sweep_on-requires : goal.sweep_on-requires
sweep_on-requires c = let p = c.requires in let first = c.sweep_first-marks.ensures.swept in sweepable_later 1 (most_steps - 1) p (omega arith) first.square (held_more (omega (arith, p.few)) (first.held p.level p.held))

pub returns : goal.returns
returns c =
    let a = c.args in
    let first = c.sweep_first-marks.ensures in
    let settled = c.sweep_on.ensures _ (settling_opened a.es.words.now (leasts_in a.leasts.now) a.waiting.now a.number.now a.width a.n a.d.now c.requires.network.linked.square first) in
    record {
      square = settled.square;
      settled = λ q. settled;
      told = λ shape rooted rest. sym c.if-not-possible.false ∙ c.possible.ensures shape rooted (rest c.sweep_first-marks.new.d c.sweep_first-marks.result first);
    }
