-- `print_sheet::print_accepted` meets its contract: the text of the waits as they are listed and of the table is that of the definition.
use mathlib.Core.Path.{sym, ap, subst, ◌∙◌}
use Prim.Native.Nat.{ℕ, ◌*◌, ◌≤◌}
use native.Mathlib.Omega.{arith}
use lib.ListN.{length}
use Rattle.print_line.proofs.Fronts.{printed_as}
use Rattle.print_plan.specs.Texts.{plan_text}
use Rattle.print_sheet.proofs.Sheets.{plans_text, steps_few, steps_room}
use borrow.Author.Rules.{rules}
use Rattle.print_sheet.proofs.print_accepted.Goals as goal

pub print_plan-requires : goal.print_plan-requires
print_plan-requires c =
    let e = c.first_byte-n.ensures in
    (omega (arith, e, steps_few c.requires.0), subst (λ (n : ℕ). n * n ≤ length c.args.table.now) (sym e) (steps_room c.requires.0), search rules)

pub returns : goal.returns
returns c =
    printed_as (ap (plan_text c.args.verdict c.args.count c.args.maps.now c.args.table.now) c.first_byte-n.ensures ∙ plans_text c.requires.0) c.print_plan.ensures
