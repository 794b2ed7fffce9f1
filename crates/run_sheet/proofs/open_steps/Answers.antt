-- The map of the others, cut off past the steps, with step 0 put in.
use Rattle.run_sheet.proofs.Laws.{open_bits}
use Rattle.run_sheet.proofs.open_steps.Goals as goal

pub returns : goal.returns
returns c = open_bits _ _ _ _ _ c.requires.some c.below.ensures c.both.ensures c.insert.ensures
