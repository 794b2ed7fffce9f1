-- 14 leaves all as lent; else the three parts are written.
use Rattle.run_sheet.specs.Steps.{memory}
use Rattle.run_sheet.proofs.Laws.{given_short, given_whole}
use Rattle.run_sheet.proofs.give.Goals as goal

pub returns-then-leasts-count : goal.returns-then-leasts-count
returns-then-leasts-count c =
    let a = c.args in
    given_short a.count a.others a.held.now (memory a.n.now a.unbounded.now a.leasts.now) c.if-leasts-count.true

pub returns : goal.returns
returns c =
    let a = c.args in
    given_whole a.count a.others a.held.now (memory a.n.now a.unbounded.now a.leasts.now) c.if-leasts-count.false c.open_steps.ensures c.copy_leasts.ensures
