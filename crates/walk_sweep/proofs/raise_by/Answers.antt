-- `walk_sweep::raise_by` meets its contract: either way the row is raised by the least.
use mathlib.Core.Path.{◌≡◌, ◌∙◌}
use Prim.Native.Nat.{ℕ, suc}
use mir.Facts.{to_z-of_z}
use mir.Syntax.{w32}
use mir.Val.{SFits}
use lib.IntN.{ℤ, pos}
use borrow.Author.Rules.{sfits_of}
use Rattle.walk_cells.specs.Cells.{value}
use Rattle.walk_cells.proofs.Heights.{back}
use Rattle.walk_cells.proofs.Values.{value_walk}
use Rattle.walk_sweep.proofs.raise_by.Goals as goal

-- What the row is raised by, where the least is not 0: the cell of the least is the least.
by_least : {c : ℤ} {least : ℕ} → SFits w32 c → value c ≡ suc least → back c ≡ pos least
by_least {c} {least} fits says = to_z-of_z fits ∙ value_walk c least says

pub raise_row-requires : goal.raise_row-requires
raise_row-requires c = rw c.if-least-eq0.true at c.requires

pub returns-then-least-eq0 : goal.returns-then-least-eq0
returns-then-least-eq0 c = rw c.if-least-eq0.true c.raise_row.ensures

pub raise_row-requires-2 : goal.raise_row-requires-2
raise_row-requires-2 c = rw (by_least (sfits_of c.of_least.type_inv) c.of_least.ensures.0) c.requires

pub returns : goal.returns
returns c = rw (by_least (sfits_of c.of_least.type_inv) c.of_least.ensures.0) at c.raise_row-2.ensures
