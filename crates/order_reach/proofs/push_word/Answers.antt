-- `order_reach::push_word` meets its contract.
use mathlib.Core.Path.{sym, ◌∙◌}
use Rattle.data_edges.specs.Words.{unpack}
use Rattle.order_reach.proofs.Pushing.{timely_may, word_handed}
use Rattle.order_reach.proofs.push_word.Goals as goal

pub returns-then-is_late : goal.returns-then-is_late
returns-then-is_late c =
    word_handed (unpack c.args.w) _ _ _ c.requires c.begun-given.ensures c.usable_by-some.ensures _ _ _ _ _ c.edge_to-to.ensures.0 c.join.ensures

pub returns : goal.returns
returns c =
    let timely = sym c.is_late.ensures ∙ c.if-is_late.false in
    word_handed (unpack c.args.w) _ _ _ c.requires c.begun-given.ensures (λ a. timely_may _ _ a timely) _ _ _ _ _ c.edge_to-to.ensures.0 c.join-2.ensures
