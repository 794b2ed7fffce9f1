-- The first n starts are copied to the front.
use Rattle.std.proofs.Common.{ap, ◌∙◌, arith, List, ℕ, ◌++◌, drop}
use Rattle.plan_starts.proofs.Laws.{started, front_cells}
use Rattle.plan_starts.proofs.fill_starts.Goals as goal

pub returns : goal.returns
returns c = started c.turns-row.ensures (ap (λ (l : List ℕ). l ++ drop c.args.n c.args.out.now) (c.copy_from_slice.ensures.after ∙ front_cells _ _ (omega arith)))
