-- `clash_filter::impossible_edges` meets its contract: a sheet's words can be listed, and the judgement of its edges is its own.
use borrow.Author.Rules.{rules}
use Rattle.clash_filter.proofs.Judging.{sheet_unlisted, sheet_some, sheet_few, sheet_judged}
use Rattle.clash_filter.proofs.impossible_edges.Goals as goal

pub list-requires : goal.list-requires
list-requires c =
    sheet_unlisted _ _ _ c.requires _ (search rules) c.clear.ensures

pub is_impossible-requires : goal.is_impossible-requires
is_impossible-requires c = record { some = sheet_some _ _ _ c.requires; few = sheet_few _ _ _ c.requires }

pub returns : goal.returns
returns c q C = sheet_judged q _ _ C _ c.is_impossible.ensures
