-- `walk_edge::raise_late` meets its contract: the column of the end is beyond the width, or is put back as it was.
use mathlib.Core.List.{[]}
use mathlib.Core.Path.{◌∙◌}
use native.Mathlib.Omega.{arith}
use Prim.Native.Nat.{◌<◌}
use lib.ListN.{get_or}
use mir.Facts.{to_z-of_z}
use mir.Syntax.{w32}
use borrow.Author.Rules.{sfits_of}
use Rattle.walk_cells.proofs.Tables.{cell_in}
use Rattle.walk_edge.proofs.Late.{raised_back, raised_beyond}
use Rattle.walk_edge.proofs.raise_late.Goals as goal

pub raise_row-requires : goal.raise_row-requires
raise_row-requires c = rw (to_z-of_z c.ranges.delta) c.requires

pub returns-then-width-k : goal.returns-then-width-k
returns-then-width-k c =
    raised_beyond _ _ _ _ _ _ _ _ _ (rw (to_z-of_z c.ranges.delta) at c.raise_row.ensures) _ c.from-k.ensures (omega arith)

pub raise_row-left-requires : goal.raise_row-left-requires
raise_row-left-requires c = rw (to_z-of_z c.ranges.delta) c.requires

pub returns : goal.returns
returns c =
    let d = c.args.d.now in
    let to = c.args.to in
    let k = c.from-k.result in
    let target = c.requires.1.target in
    let inside : k < 64 = omega (arith, target.few) in
    let place = cell_in (get_or d to []) k (omega (arith, target.square.cells to target.row)) in
    raised_back _ _ _ _ _ _ _ _ _ (rw (to_z-of_z c.ranges.delta) at c.raise_row-left.ensures) _ _ c.from-k.ensures (to_z-of_z {w = w32} (sfits_of c.old-1.given) ∙ place) target.row inside
