-- `plan_walks::tabulate` meets its contract: what the analysis found where 8 applies, or where 10 does not; else 10, with the maps made blank again.
use borrow.Author.Rules.{rules}
use mathlib.Core.Path.{refl, sym, ◌∙◌}
use mathlib.Core.Bool.{true, false, false≢true}
use borrow.Author.Tests.{not-true, not-false}
use Rattle.laws.proofs.Bools.{both_ways}
use Rattle.plan_walks.proofs.Verdicts.{feasible_listed, feasible_plannable, infeasible_listed, sorted_rooted, unsorted_refused}
use Rattle.plan_walks.proofs.tabulate.Goals as goal

pub judge_assuming_feasible-found-requires : goal.judge_assuming_feasible-found-requires
judge_assuming_feasible-found-requires c =
    let p = c.requires in
    record { some = p.0.sheet.some; few = p.0.sheet.few; lent = record { long = search rules; rows = record { no_reach = p.1.rows; no_maps = p.1.maps } } }

pub returns-then-not-found : goal.returns-then-not-found
returns-then-not-found c =
    let sheet = c.requires.0.sheet in
    let presumed = c.judge_assuming_feasible-found.ensures sheet.formed in
    let unsorted = not-true _ c.if-not-found.true in
    record { listed = presumed.unsorted unsorted; held = λ h. absurd (both_ways h (unsorted_refused presumed unsorted)) }

pub returns-then-fill : goal.returns-then-fill
returns-then-fill c =
    let sheet = c.requires.0.sheet in
    let presumed = c.judge_assuming_feasible-found.ensures sheet.formed in
    let passes = not-false _ c.if-not-found.false in
    let told = c.fill.ensures.told (sorted_rooted presumed sheet.some sheet.formed passes) (presumed.long passes) in
    let possible = sym told ∙ c.if-fill.true in
    record {
      listed = feasible_listed presumed passes possible;
      held = λ h. c.fill.ensures.held c.if-fill.true h (feasible_plannable presumed passes sheet.some sheet.formed possible h);
    }

pub returns : goal.returns
returns c =
    let sheet = c.requires.0.sheet in
    let presumed = c.judge_assuming_feasible-found.ensures sheet.formed in
    let passes = not-false _ c.if-not-found.false in
    let told = c.fill.ensures.told (sorted_rooted presumed sheet.some sheet.formed passes) (presumed.long passes) in
    record { listed = infeasible_listed presumed passes (sym told ∙ c.if-fill.false) refl; held = λ h. absurd (false≢true h) }
