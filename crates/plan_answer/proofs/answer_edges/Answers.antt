-- `plan_answer::answer_edges` meets its contract: there is room for the lists of few edges, and for those of any.
use native.Mathlib.Omega.{arith}
use lib.ListN.{length-replicate}
use Rattle.data_lists.proofs.Linking.{zeros_empty}
use Rattle.plan_answer.specs.Sizes.{few_listed, most_listed}
use Rattle.plan_answer.proofs.answer_edges.Goals as goal

pub answer_listed-requires : goal.answer_listed-requires
answer_listed-requires c =
    let p = c.requires in
    (record { sheet = p.0; room = simp length-replicate (omega arith); empty = zeros_empty few_listed (omega arith) }, p.1)

pub answer_listed-requires-2 : goal.answer_listed-requires-2
answer_listed-requires-2 c =
    let p = c.requires in
    (record { sheet = p.0; room = simp length-replicate (omega (arith, p.0.edges)); empty = zeros_empty most_listed (omega arith) }, p.1)
