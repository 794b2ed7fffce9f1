-- `clash_parts::pair_of` meets its contract: by whether the word is a return.
use mathlib.Core.Path.{sym, ◌∙◌}
use Rattle.clash_parts.specs.Words.{pair_rank}
use Rattle.clash_parts.proofs.pair_of.Goals as goal

pub returns-then-is_back : goal.returns-then-is_back
unfolding pair_rank
returns-then-is_back c =
    rw (sym c.is_back.ensures ∙ c.if-is_back.true, c.edge_to.ensures.0, c.edge_from.ensures.0)

pub returns : goal.returns
unfolding pair_rank
returns c =
    rw (sym c.is_back.ensures ∙ c.if-is_back.false, c.edge_from-2.ensures.0, c.edge_to-2.ensures.0)
