-- `walk_cells::has_handed` meets its contract: a cell that says nothing hands nothing on; else the weights are compared.
use mathlib.Core.Path.{◌≡◌, sym}
use native.Mathlib.Omega.{arith}
use Prim.Native.Nat.{◌+◌, ◌-◌}
use mir.Facts.{to_z-of_z}
use borrow.Author.Tests.{le-leb, leb-true, lt-leb}
use Rattle.laws.proofs.Bools.{same_test}
use Rattle.theory.proofs.RowLaws.{extend_none, extend_some}
use Rattle.definitions.specs.Rounds.{extend}
use Rattle.walk_cells.specs.Cells.{value}
use Rattle.walk_cells.proofs.Heights.{below_back, not_below_back}
use Rattle.walk_cells.proofs.has_handed.Goals as goal

pub returns-then-c-lt0 : goal.returns-then-c-lt0
returns-then-c-lt0 c =
    let nothing = extend_none (value c.args.c) c.args.gain c.args.loss (below_back c.ranges.c c.if-c-lt0.true) in
    sym (le-leb (extend (value c.args.c) c.args.gain c.args.loss) (value c.args.to) (omega (arith, nothing)))

pub returns-then-to-lt0 : goal.returns-then-to-lt0
returns-then-to-lt0 c =
    let some = extend_some (value c.args.c) c.args.gain c.args.loss (not_below_back c.ranges.c c.if-c-lt0.false) in
    sym (lt-leb (extend (value c.args.c) c.args.gain c.args.loss) (value c.args.to) (omega (arith, some, below_back c.ranges.to c.if-to-lt0.true)))

pub returns : goal.returns
returns c =
    let a = c.args in
    let walk = not_below_back c.ranges.c c.if-c-lt0.false in
    let there = not_below_back c.ranges.to c.if-to-lt0.false in
    let some = extend_some (value a.c) a.gain a.loss walk in
    let own : c.weight.result ≡ value a.c - 1 = rw (to_z-of_z c.ranges.c) at c.weight.ensures in
    let end : c.weight-2.result ≡ value a.to - 1 = rw (to_z-of_z c.ranges.to) at c.weight-2.ensures in
    same_test _ _
    (λ h. le-leb (extend (value a.c) a.gain a.loss) (value a.to) (omega (arith, some, there, leb-true (c.from.result + a.gain) (c.from-2.result + a.loss) h, own, end)))
    (λ h. le-leb (c.from.result + a.gain) (c.from-2.result + a.loss) (omega (arith, some, walk, there, leb-true (extend (value a.c) a.gain a.loss) (value a.to) h, own, end)))
