-- The members of both maps other than b are those that are compared.
use Rattle.plan_deciding.proofs.Laws.{covered, given_of, left_of}
use Rattle.plan_deciding.proofs.without_covered.Goals as goal

pub returns : goal.returns
returns c p f g a =
    let behind = c.remove-behind.ensures in
    let given = c.both-given.ensures in
    covered _ _ _ a _ _ _ _ _ (behind a) (given a) (c.without_reached.ensures p (λ j h. f j (given_of _ _ _ j (given j) h).0) (λ j h. g j (left_of _ _ _ j (behind j) (given_of _ _ _ j (given j) h).1)) a)
