-- `judge_possible::judge_possible` meets its contract: 8, then 10, then 11, each by its test.
use Rattle.std.proofs.Common.{sym, ◌∙◌}
use Rattle.judge_edges.proofs.Judging.{all_rooted, first_10, first_done, first_refused, sorting_order}
use Rattle.judge_possible.proofs.Possible.{possible_11, possible_done, possible_refused}
use Rattle.judge_possible.proofs.judge_possible.Goals as goal

pub returns-then-not-sort : goal.returns-then-not-sort
returns-then-not-sort c shape entered =
    sym (possible_refused _ _ 8 (first_refused _ _ _ (sorting_order _ _ (c.sort.ensures shape entered) c.if-not-sort.true)))

pub returns-then-not-feasible : goal.returns-then-not-feasible
returns-then-not-feasible c shape entered =
    let passed = sorting_order _ _ (c.sort.ensures shape entered) c.if-not-sort.false in
    let settles = c.feasible.ensures shape (all_rooted _ _ passed c.requires.some shape entered) in
    sym (possible_refused _ _ 10 (first_10 _ _ passed (sym settles ∙ c.if-not-feasible.true)))

-- What passes 8 and 10 is judged by the test of 11.
pub returns-then-waits_for_itself : goal.returns-then-waits_for_itself
returns-then-waits_for_itself c shape entered =
    let sorts = c.sort.ensures shape entered in
    let passed = sorting_order _ _ sorts c.if-not-sort.false in
    let settles = c.feasible.ensures shape (all_rooted _ _ passed c.requires.some shape entered) in
    let first = first_done _ _ passed (sym settles ∙ c.if-not-feasible.false) in
    let waits = c.waits_for_itself.ensures (record { shape = shape; anchors = sorts.found c.if-not-sort.false; passes = passed }) in
    sym (possible_11 _ _ first (sym waits ∙ c.if-waits_for_itself.true))

pub returns : goal.returns
returns c shape entered =
    let sorts = c.sort.ensures shape entered in
    let passed = sorting_order _ _ sorts c.if-not-sort.false in
    let settles = c.feasible.ensures shape (all_rooted _ _ passed c.requires.some shape entered) in
    let first = first_done _ _ passed (sym settles ∙ c.if-not-feasible.false) in
    let waits = c.waits_for_itself.ensures (record { shape = shape; anchors = sorts.found c.if-not-sort.false; passes = passed }) in
    sym (possible_done _ _ first (sym waits ∙ c.if-waits_for_itself.false))
