-- The filled front is a cleared row.
use Rattle.std.proofs.Common.{◌≡◌, ap, ◌∙◌, arith, List, ℕ, ◌++◌, length, take, drop, replicate}
use lib.ListN.{length-take}
use Rattle.definitions.specs.Plan.{undecided}
use Rattle.plan_table.proofs.Laws.{filled_cleared}
use Rattle.plan_table.proofs.clear.Goals as goal

pub returns : goal.returns
returns c =
    let size : length (take c.args.count c.args.row.now) ≡ c.args.count = simp length-take (omega arith) in
    ap (λ (l : List ℕ). l ++ drop c.args.count c.args.row.now) (c.fill.ensures.after (λ y e. e) ∙ ap (λ (k : ℕ). replicate k undecided) size ∙ filled_cleared _)
