-- `judge_edges::judge_assuming_feasible` meets its contract: 8, or what is found from 11 on.
use mathlib.Core.Path.{ap}
use Rattle.definitions.specs.Numbers.{verdict_of}
use Rattle.judge_edges.proofs.Judging.{presumed_refused, presumed_rest, sorting_order}
use Rattle.judge_edges.proofs.judge_assuming_feasible.Goals as goal

pub returns-then-not-sort : goal.returns-then-not-sort
returns-then-not-sort c sheet =
    let u = c.refused.ensures in
    presumed_refused _ _ _ _ _ _ _ _ _ 8 (sorting_order _ _ (c.sort.ensures sheet.shape sheet.entered) c.if-not-sort.true) u.1.sorts (ap verdict_of u.0) c.requires.lent.rows.no_maps u.1.none

pub returns : goal.returns
returns c sheet =
    let s = c.sort.ensures sheet.shape sheet.entered in
    let passes = c.if-not-sort.false in
    let passed = sorting_order _ _ s passes in
    presumed_rest _ _ _ _ _ _ _ _ _ passed c.serialize.ensures.0 (c.serialize.ensures.1 (record { sheet = sheet; anchors = s.found passes; passes = passed }))
