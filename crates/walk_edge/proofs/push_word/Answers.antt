-- `walk_edge::push_word` meets its contract: nothing is to be done, or the row of the end is raised, a late edge leaving out one column.
use mathlib.Core.List.{List}
use mathlib.Core.Path.{sym, ◌∙◌}
use mathlib.Core.Logic.{◌⊎◌}
use Prim.Native.Nat.{ℕ, ◌+◌, ◌<◌}
use lib.IntN.{ℤ}
use native.Mathlib.Omega.{arith}
use Rattle.definitions.specs.Links.{UsableFrom}
use Rattle.data_edges.specs.Words.{unpack}
use Rattle.walk_cells.specs.Cells.{Delta}
use Rattle.walk_lift.specs.Lifts.{Liftable, Raised, lent}
use Rattle.walk_edge.specs.Columns.{HandedAll, Only}
use Rattle.walk_edge.proofs.Handing.{Uses, handed_idle, handed_row, late_columns, late_on, timely_columns, timely_on}
use mir.Facts.{to_z-of_z}
use mir.Syntax.{w32}
use mir.Val.{SFits}
use borrow.Author.Rules.{sfits_of}
use borrow.Author.Tests.{leb-true}
use Rattle.walk_edge.proofs.push_word.Goals as goal
use Rattle.walk_edge.proofs.push_word.Goals.{After-delta-delta}

-- What cells move by: delta, by the edge's gain and loss.
by_edge : (c : After-delta-delta) → Delta (unpack c.args.w).gain (unpack c.args.w).loss c.delta-delta.result
by_edge c = rw (← c.edge_gain-gain.ensures.0, ← c.edge_loss-loss.ensures.0) c.delta-delta.ensures.0

delta_fits : (c : After-delta-delta) → SFits w32 c.delta-delta.result
delta_fits c = sfits_of c.delta-delta.type_inv

-- The row of the end is there to be raised.
target : (c : After-delta-delta) → (c.edge_to-to.result < 64) × Liftable c.edge_to-to.result c.args.width c.delta-delta.result c.args.row.now c.args.d.now
target c =
    let to = c.edge_to-to.ensures in
    let p = c.requires in
    (to.1, record { target = record { row = omega (arith, to.0, p.target.row); few = p.target.few; square = p.target.square }; movable = p.ready.movable; small = c.delta-delta.ensures.1 })

-- Where the row of the end was raised by delta in the columns whose anchors may use the edge, the edge has handed on.
handed : (c : After-delta-delta) {On : ℕ → Type 0} {d' : List (List ℤ)} {m' : ℕ} → Raised On c.edge_to-to.result c.delta-delta.result c.args.row.now c.args.d.now d' c.args.marks m' → ((k : ℕ) → (On k × (k < c.args.width)) ⊎ (¬ On k)) → Uses (unpack c.args.w) c.args.number.now c.args.width On → HandedAll (λ x. UsableFrom (Only (unpack c.args.w)) x) c.args.number.now (unpack c.args.w).from (lent c.args.row.now c.args.width) c.args.d.now d' c.args.marks m'
handed c raised on uses =
    handed_row (unpack c.args.w) c.args.number.now c.args.row.now c.args.width c.requires.ready.movable c.args.d.now _ _ _ _ _ _ c.requires.light c.edge_to-to.ensures.0 (by_edge c) raised on uses

pub returns-then-is_idle : goal.returns-then-is_idle
returns-then-is_idle c =
    let idle = leb-true (c.args.top + c.edge_gain-gain.result) c.edge_loss-loss.result (sym c.is_idle.ensures ∙ c.if-is_idle.true) in
    handed_idle (unpack c.args.w) _ c.args.row.now c.args.width c.requires.ready.movable _ c.args.top _ c.requires.ready.tops c.requires.target.square (omega (arith, idle, c.edge_gain-gain.ensures.0, c.edge_loss-loss.ensures.0))

pub raise_late-requires : goal.raise_late-requires
raise_late-requires c =
    let s = c.before.before.before.before.before in
    rw (to_z-of_z (delta_fits s)) (target s)

pub returns-then-is_late : goal.returns-then-is_late
returns-then-is_late c =
    let s = c.before.before.before.before.before.before.before in
    handed s (rw (to_z-of_z (delta_fits s)) at c.raise_late.ensures) (late_on c.args.width _) (late_columns (unpack c.args.w) _ _ _ (sym c.is_late.ensures ∙ c.if-is_late.true) c.edge_to-to.ensures.0 c.edge_to-to.ensures.1)

pub raise_row-requires : goal.raise_row-requires
raise_row-requires c =
    let s = c.before.before.before.before.before in
    rw (to_z-of_z (delta_fits s)) (target s)

pub returns : goal.returns
returns c =
    let s = c.before.before.before.before.before.before.before in
    handed s (rw (to_z-of_z (delta_fits s)) at c.raise_row.ensures) (timely_on c.args.width) (timely_columns (unpack c.args.w) _ _ (sym c.is_late.ensures ∙ c.if-is_late.false))
