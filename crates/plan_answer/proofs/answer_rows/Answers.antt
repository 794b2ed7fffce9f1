-- `plan_answer::answer_rows` meets its contract: a table of so many rows holds no walks yet.
use lib.ListN.{length-replicate}
use Rattle.walk_heaviest.proofs.Bare.{empty_found}
use Rattle.plan_answer.proofs.answer_rows.Goals as goal

pub answer_on-requires : goal.answer_on-requires
answer_on-requires g c =
    let p = c.requires in
    (record { sheet = p.0; rows = simp length-replicate p.1; empty = empty_found _ }, p.3)
