-- The few records stand at the end of the numbers, and are handed out.
use mathlib.Core.Path.{◌≡◌, subst, ◌∙◌}
use mathlib.Core.List.{List}
use Prim.Native.Nat.{ℕ, ◌-◌}
use native.Mathlib.Omega.{arith}
use lib.ListN.{drop, length-drop, take}
use lib.Seq.{take_all}
use Rattle.clash_sheet.specs.Reports.{Handed}
use Rattle.clash_sheet.proofs.Laws.{filterable}
use Rattle.clash_sheet.proofs.report.Goals as goal

pub clash-at-requires : goal.clash-at-requires
clash-at-requires c = filterable c.requires

pub returns : goal.returns
returns c q R =
    let numbers = c.clash-at.new.numbers in
    let at = c.clash-at.result in
    let report = c.clash-at.ensures q R in
    let all : take (512 - at) (drop at numbers) ≡ drop at numbers = take_all (512 - at) (drop at numbers) (omega (arith, report.long, length-drop at numbers)) in
    subst (λ (l : List ℕ). Handed l c.args.list.now c.hand_out.result c.hand_out.new.list) (all ∙ report.same) c.hand_out.ensures
