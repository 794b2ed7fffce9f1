-- `print_sheet::standplan` meets its contract: what is answered is the plan with the waits, or the refusal that is printed.
use mathlib.Core.Path.{sym, ap, ◌∙◌}
use native.Mathlib.Omega.{arith}
use Rattle.read_sheet.proofs.Whole.{bytes_by}
use Rattle.definitions.specs.Numbers.{verdict_of}
use Rattle.print_line.specs.Texts.{refusal_text}
use Rattle.print_line.proofs.Fronts.{printed_as}
use Rattle.print_sheet.proofs.Sheets.{plan_plans, plan_refuses}
use borrow.Author.Rules.{rules}
use Rattle.print_sheet.proofs.standplan.Goals as goal

pub print_accepted-requires : goal.print_accepted-requires
print_accepted-requires c =
    let p = c.answer-found.ensures in
    let bytes = bytes_by c.args.s.now (λ i. omega (arith, c.type_inv.s i)) in
    let accepted = sym (ap verdict_of c.in-Ok.is ∙ c.acceptance_number-verdict.ensures) in
    (plan_plans c.args.s.now bytes _ (search rules) (accepted ∙ p.verdict) p.numbers p.maps p.count, search rules)

pub returns-in-Err : goal.returns-in-Err
returns-in-Err c =
    let bytes = bytes_by c.args.s.now (λ i. omega (arith, c.type_inv.s i)) in
    let refuses = plan_refuses c.args.s.now bytes _ (search rules) (sym (ap verdict_of c.in-Err.is) ∙ c.answer-found.ensures.verdict) in
    printed_as (ap refusal_text c.refusal_number-number.ensures.0 ∙ refuses) c.print_refusal.ensures
