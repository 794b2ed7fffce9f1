-- `clash_filter::impossible_with` meets its contract: the words that are judged are those of the part, completed, and the first ones are not written over.
use borrow.Author.Rules.{rules}
use Rattle.clash_filter.proofs.Judging.{part_judgeable, part_tried}
use Rattle.clash_filter.proofs.impossible_with.Goals as goal

pub impossible_edges-requires : goal.impossible_edges-requires
impossible_edges-requires c =
    part_judgeable _ _ _ _ _ c.requires _ c.put.ensures _ _ c.complete_part-all.ensures (search rules)

pub returns : goal.returns
returns c =
    part_tried _ _ _ _ _ c.requires _ c.put.ensures _ _ c.complete_part-all.ensures _ c.impossible_edges.ensures
