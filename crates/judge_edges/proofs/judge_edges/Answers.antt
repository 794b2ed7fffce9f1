-- `judge_edges::judge_edges` meets its contract: 8, then 10, then what is found from 11 on.
use mathlib.Core.Path.{sym, ap, ◌∙◌}
use Rattle.definitions.specs.Numbers.{verdict_of}
use Rattle.judge_edges.proofs.Judging.{all_rooted, edges_go_on, edges_refuse, first_10, first_done, first_refused, sorting_order}
use Rattle.judge_edges.proofs.judge_edges.Goals as goal

pub returns-then-not-sort : goal.returns-then-not-sort
returns-then-not-sort c sheet =
    let u = c.refused.ensures in
    edges_refuse _ _ _ _ _ _ _ 8 (first_refused _ _ _ (sorting_order _ _ (c.sort.ensures sheet.shape sheet.entered) c.if-not-sort.true)) (ap verdict_of u.0) c.requires.blank u.1.none

pub returns-then-not-feasible : goal.returns-then-not-feasible
returns-then-not-feasible c sheet =
    let p = c.requires in
    let u = c.refused-then-not-feasible.ensures in
    let passed = sorting_order _ _ (c.sort.ensures sheet.shape sheet.entered) c.if-not-sort.false in
    let settles = c.feasible.ensures sheet.shape (all_rooted _ _ passed p.some sheet.shape sheet.entered) in
    edges_refuse _ _ _ _ _ _ _ 10 (first_10 _ _ passed (sym settles ∙ c.if-not-feasible.true)) (ap verdict_of u.0) p.blank u.1.none

pub returns : goal.returns
returns c sheet =
    let passes = c.if-not-sort.false in
    let found = c.sort.ensures sheet.shape sheet.entered in
    let passed = sorting_order _ _ found passes in
    let settles = c.feasible.ensures sheet.shape (all_rooted _ _ passed c.requires.some sheet.shape sheet.entered) in
    let done = first_done _ _ passed (sym settles ∙ c.if-not-feasible.false) in
    let unweighed = c.serialize.ensures.1 (record { sheet = sheet; anchors = found.found passes; passes = passed }) in
    edges_go_on _ _ _ _ _ _ _ done (unweighed.serialized done)
