-- `plan_answer::answer_listed` meets its contract: a judgement is the analysis; else a table of few rows is enough for few steps, one of some for some, and one of all for any.
use lib.ListN.{get_or}
use Rattle.data_edges.specs.Words.{unpack}
use Rattle.data_edges.proofs.Places.{graph_at}
use Rattle.plan_answer.proofs.Writing.{judged_responds}
use Rattle.plan_answer.proofs.answer_listed.Goals as goal

pub list-requires : goal.list-requires
list-requires c =
    let p = c.requires.0 in
    record { few = p.sheet.edges; light = λ k b. p.sheet.formed.gains (unpack (get_or c.args.es.now k 0)) (graph_at c.args.es.now k b); long = p.room; empty = p.empty }

pub returns-in-Judgement : goal.returns-in-Judgement
returns-in-Judgement c os o =
    judged_responds _ _ _ c.args.asked.allow os c.args.asked.list.now c.args.out.now c.in-Judgement.is (c.judge_edges.ensures c.requires.0.sheet.formed)
