-- `plan_answer::answer_on` meets its contract: something refuses, or the numbers are read off the tables.
use borrow.Author.Rules.{rules}
use mathlib.Core.Path.{sym, ◌∙◌}
use Rattle.walk_heaviest.proofs.Bare.{blank_found}
use Rattle.plan_answer.proofs.Writing.{fitting, given_written, list_right, outcome_of, refused_stays}
use Rattle.plan_answer.proofs.answer_on.Goals as goal

pub tabulate-found-requires : goal.tabulate-found-requires
tabulate-found-requires c =
    let p = c.requires in
    (p.0, record { rows = search rules; maps = p.1; numbers = blank_found })

pub returns-then-not-accepted : goal.returns-then-not-accepted
returns-then-not-accepted c os o =
    let args = c.args in
    let listed = c.tabulate-found.ensures.listed in
    let checks = c.checked-verdict.ensures.checks os o in
    let no = sym c.accepted.ensures ∙ c.if-not-accepted.true in
    record {
      verdict = outcome_of args.question _ _ _ args.asked.allow os args.asked.list.now args.out.now listed.judges checks;
      numbers = refused_stays args.question _ _ _ args.asked.allow os args.asked.list.now args.out.now listed.judges checks no;
      waits = record { found = listed.found; blank = listed.blank };
    }

pub returns : goal.returns
returns c os o =
    let args = c.args in
    let sheet = c.requires.0.sheet in
    let ok = sym c.accepted.ensures ∙ c.if-not-accepted.false in
    let listed = c.tabulate-found.ensures.listed in
    let held = c.tabulate-found.ensures.held (c.checked-verdict.ensures.accepted ok) in
    let checks = c.checked-verdict.ensures.checks os o in
    let right = list_right _ _ _ os _ _ checks ok in
    let fits = fitting held sheet.formed.gains sheet.formed.leasts sheet.few args.question os args.asked.list.now _ o.long o.least right (c.checked-verdict.ensures.fits ok) in
    record {
      verdict = outcome_of args.question _ _ _ args.asked.allow os args.asked.list.now args.out.now listed.judges checks;
      numbers = given_written args.question _ _ _ args.asked.allow os args.asked.list.now args.out.now listed.judges checks ok (c.write.ensures _ sheet.formed.leasts held fits);
      waits = record { found = listed.found; blank = listed.blank };
    }
