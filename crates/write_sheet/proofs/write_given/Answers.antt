-- 2 and 3, and then the verdict of the parts that are there.
use mathlib.Core.Path.{ap}
use Rattle.definitions.specs.Bytes.{Records}
use Rattle.definitions.specs.Writer.{sheet_bytes}
use Rattle.write_sheet.specs.Written.{parts_verdict}
use Rattle.write_sheet.proofs.Verdicts.{leaves_as, returned_none, returned_many, returned_parts, returned_records, there_parts}
use Rattle.write_sheet.proofs.write_given.Goals as goal

pub returns-then-n-lt1 : goal.returns-then-n-lt1
returns-then-n-lt1 c = returned_none _ _ _ _ _ c.if-n-lt1.true

pub returns-then-n-gt64 : goal.returns-then-n-gt64
returns-then-n-gt64 c = returned_many _ _ _ _ _ c.if-n-lt1.false c.if-n-gt64.true

pub returns-then-r-gt-MOST_RECORDS : goal.returns-then-r-gt-MOST_RECORDS
returns-then-r-gt-MOST_RECORDS c = returned_records _ _ _ _ _ c.if-n-lt1.false c.if-n-gt64.false c.if-r-gt-MOST_RECORDS.true

pub returns : goal.returns
returns c =
    let there = there_parts c.args.n c.args.r c.args.a c.args.b c.args.steps c.args.links c.min-steps_taken.ensures c.min-links_taken.ensures in
    returned_parts _ _ _ _ _ c.if-n-lt1.false c.if-n-gt64.false c.if-r-gt-MOST_RECORDS.false (leaves_as (ap (λ (q : Records). parts_verdict c.args.n c.args.r q c.args.out.now) there) (ap sheet_bytes there) c.write_counted.ensures)
