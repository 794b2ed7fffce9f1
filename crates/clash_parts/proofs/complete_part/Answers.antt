-- `clash_parts::complete_part` meets its contract: the map that is handed on is that of the first count words.
use Rattle.clash_parts.proofs.Completing.{part_completes}
use Rattle.clash_parts.proofs.complete_part.Goals as goal

pub returns : goal.returns
returns c =
    part_completes _ _ _ _ _ _ c.entered-map.ensures c.complete.ensures
