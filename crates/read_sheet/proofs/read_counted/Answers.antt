-- R is judged once both its bytes are there.
use mathlib.Core.Path.{sym, ap, ◌∙◌}
use Prim.Native.Nat.{ℕ, ◌≤◌}
use native.Mathlib.Omega.{arith}
use lib.ListN.{drop}
use Rattle.std.proofs.lemmas.Result.{err_from_is_err_and}
use Rattle.definitions.specs.Limits.{most_records}
use Rattle.read_fields.specs.Parts.{outcome}
use Rattle.read_fields.proofs.Counts.{count_there}
use Rattle.read_sheet.specs.Parts.{sheet_records}
use Rattle.read_sheet.proofs.Parts.{counted_refused, counted_above, counted_there}
use Rattle.read_sheet.proofs.read_counted.Goals as goal

-- R is not there.
pub returns-in_err-count : goal.returns-in_err-count
returns-in_err-count c =
    let p = err_from_is_err_and c.from_residual.result c.from_residual.ensures.1 in
    rw (p.1, p.2) (counted_refused c.args.n _ (sym c.in_err-count.ensures.same))

-- R is above its limit.
pub returns-then-r-gt-MOST_RECORDS : goal.returns-then-r-gt-MOST_RECORDS
returns-then-r-gt-MOST_RECORDS c = counted_above c.args.n _ (sym c.in_ok-count.ensures.same) (omega arith)

-- R is within it.
pub returns : goal.returns
returns c =
    let there = sym c.in_ok-count.ensures.same in
    let same = c.from-r.ensures in
    let below : c.in_ok-count.count.value ≤ most_records = omega arith in
    let room = count_there c.args.s.now there below in
    record {
      same = ap (λ (r : ℕ). outcome (sheet_records c.args.n r) (drop c.in_ok-count.count.next c.args.s.now)) same ∙ sym (counted_there c.args.n _ there below);
      inside = c.in_ok-count.ensures.inside;
      steps = c.requires;
      few = c.if-r-gt-MOST_RECORDS.false;
      room = omega (arith, room, same);
    }
