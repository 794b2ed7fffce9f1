-- N is judged at the first byte, and R is `read_counted`'s.
use mathlib.Core.Path.{◌≡◌}
use native.Mathlib.Omega.{arith}
use lib.ListN.{length}
use borrow.Author.Tests.{eqb-true, eqb-false}
use Rattle.read_sheet.proofs.Parts.{sheet_none, sheet_zero, sheet_above, sheet_there}
use Rattle.read_sheet.proofs.read_head.Goals as goal

pub returns-then-is_empty : goal.returns-then-is_empty
returns-then-is_empty c = sheet_none c.args.s.now (eqb-true (length c.args.s.now) 0 cc)

-- N is within its limits.
pub returns-in-1-to-64 : goal.returns-in-1-to-64
returns-in-1-to-64 c =
    let e = c.from-n.ensures in
    let some : length c.args.s.now ≡ 0 → ⊥ = eqb-false (length c.args.s.now) 0 cc in
    rw (sheet_there c.args.s.now (omega (arith, some)) (omega arith) (omega arith)) (rw e at c.read_counted.ensures)

-- N is 0, or above its limit.
pub returns-in_default : goal.returns-in_default
returns-in_default c =
    let some : length c.args.s.now ≡ 0 → ⊥ = eqb-false (length c.args.s.now) 0 cc in
    sheet_zero c.args.s.now (omega (arith, some)) (omega arith)

pub returns-in_default-2 : goal.returns-in_default-2
returns-in_default-2 c =
    let some : length c.args.s.now ≡ 0 → ⊥ = eqb-false (length c.args.s.now) 0 cc in
    sheet_above c.args.s.now (omega (arith, some)) (omega arith)
