-- 14 leaves the list as lent; else the report stands at its front.
use mathlib.Core.Path.{◌≡◌, sym, ap, ◌∙◌}
use mathlib.Core.List.{List, ◌++◌}
use Prim.Native.Nat.{ℕ, ◌<◌, ◌≤◌}
use lib.ListN.{drop, length}
use borrow.Author.Tests.{le-ltb, lt-ltb}
use Rattle.definitions.specs.Answers.{too_short, written}
use Rattle.definitions.specs.Basics.{Outcome, given, refused}
use Rattle.laws.proofs.Outcomes.{passes_by, stops_at}
use Rattle.clash_sheet.specs.Reports.{handed}
use Rattle.clash_sheet.proofs.hand_out.Goals as goal

short : (report list : List ℕ) → length list < length report → handed report list ≡ refused 14
unfolding too_short
short report list h = stops_at 14 _ (lt-ltb (length list) (length report) h)

long : (report list : List ℕ) → length report ≤ length list → handed report list ≡ given (length report)
unfolding too_short
long report list h = passes_by 14 _ (le-ltb (length list) (length report) h)

pub returns-then-list-count : goal.returns-then-list-count
unfolding written
returns-then-list-count c =
    let numbers = c.args.numbers.now in
    let list = c.args.list.now in
    let e = short numbers list c.if-list-count.true in
    record { tally = sym e; numbers = ap (λ (o : Outcome ℕ). written o numbers list) (sym e) }

pub returns : goal.returns
unfolding written
returns c =
    let numbers = c.args.numbers.now in
    let list = c.args.list.now in
    let e = long numbers list c.if-list-count.false in
    record {
      tally = sym e;
      numbers = ap (λ (l : List ℕ). l ++ drop (length numbers) list) c.copy_from_slice.ensures.after ∙ ap (λ (o : Outcome ℕ). written o numbers list) (sym e);
    }
