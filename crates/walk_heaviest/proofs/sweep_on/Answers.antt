use native.Mathlib.Omega.{arith}
use Prim.Native.Nat.{◌-◌}
use Rattle.data_edges.specs.Serial.{leasts_in}
use Rattle.walk_cells.proofs.Tables.{held_more, square_then}
use Rattle.walk_sweep.proofs.Sweeping.{sweepable_later}
use Rattle.walk_heaviest.proofs.Settled.{settling_end, settling_more, settling_rest}
use Rattle.walk_heaviest.proofs.sweep_on.Goals as goal

pub loop-k-init : goal.loop-k-init
loop-k-init c = let p = c.requires in ((omega arith, p.some), p.network.linked.square, λ w H. held_more (omega arith) H, λ d' S. S)

pub shape_of-d-then-left-eq0 : goal.shape_of-d-then-left-eq0
shape_of-d-then-left-eq0 c = c.loop-k.invariant.1.rows

pub returns-then-left-eq0 : goal.returns-then-left-eq0
returns-then-left-eq0 c =
    let a = c.args in
    λ d' S. settling_rest a.es.words.now (leasts_in a.leasts.now) a.waiting.now a.number.now a.width a.n d' c.loop-k.invariant.0.1 c.if-left-eq0.true (c.loop-k.invariant.3 d' S)

pub sweep-left-requires : goal.sweep-left-requires
sweep-left-requires c = let p = c.requires in sweepable_later (c.loop-k.k - 1) 1 p (omega (arith, p.few, c.loop-k.invariant.0)) c.loop-k.invariant.1 (c.loop-k.invariant.2 p.level p.held)

pub loop-k-preserved : goal.loop-k-preserved
loop-k-preserved c =
    let a = c.args in
    ((omega arith, omega arith), square_then c.loop-k.invariant.1 c.sweep-left.ensures.square, λ w H. held_more (omega (arith, c.requires.few, c.loop-k.invariant.0)) (c.sweep-left.ensures.held _ (c.loop-k.invariant.2 w H)), λ d' S. settling_more a.es.words.now (leasts_in a.leasts.now) a.waiting.now a.number.now a.width a.n d' (c.loop-k.invariant.3 d' S) c.sweep-left.ensures)

pub shape_of-d : goal.shape_of-d
shape_of-d c = c.loop-k.invariant.1.rows

pub returns : goal.returns
returns c =
    let a = c.args in
    λ d' S. settling_end a.es.words.now (leasts_in a.leasts.now) a.waiting.now a.number.now a.width a.n d' c.loop-k.invariant.0.1 (omega arith) (c.loop-k.invariant.3 d' S)
