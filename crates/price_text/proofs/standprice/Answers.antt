-- What is quoted is the price that is printed, or the refusal.
use mathlib.Core.Path.{ap, ◌∙◌}
use native.Mathlib.Omega.{arith}
use Rattle.read_sheet.proofs.Whole.{bytes_by}
use Rattle.print_line.specs.Texts.{refusal_text}
use Rattle.print_line.proofs.Fronts.{printed_as}
use Rattle.price_text.proofs.Reports.{quoted_few, quoted_refusal, quoted_text}
use borrow.Author.Rules.{rules}
use Rattle.price_text.proofs.standprice.Goals as goal

pub print_price-requires : goal.print_price-requires
print_price-requires c =
    let bytes = bytes_by c.args.s.now (λ i. omega (arith, c.type_inv.s i)) in
    (quoted_few c.args.s.now bytes _ _ (search rules) (search rules) c.printed-entries.ensures c.in-Ok.ensures, search rules)

pub returns-in-Ok : goal.returns-in-Ok
returns-in-Ok c =
    let bytes = bytes_by c.args.s.now (λ i. omega (arith, c.type_inv.s i)) in
    printed_as (quoted_text c.args.s.now bytes _ _ (search rules) (search rules) c.printed-entries.ensures c.in-Ok.ensures) c.print_price.ensures

pub returns-in-Err : goal.returns-in-Err
returns-in-Err c =
    let bytes = bytes_by c.args.s.now (λ i. omega (arith, c.type_inv.s i)) in
    let text = quoted_refusal c.args.s.now bytes _ _ (search rules) (search rules) c.printed-entries.ensures c.in-Err.ensures in
    printed_as (ap refusal_text c.refusal_number-number.ensures.0 ∙ text) c.print_refusal.ensures
