-- The offsets of the deciding set are put into a cleared row.
use Rattle.plan_table.proofs.Laws.{row_filled}
use Rattle.plan_table.proofs.fill_row.Goals as goal

pub returns : goal.returns
returns c T clear = row_filled _ _ _ _ _ _ _ _ (c.deciding_set-deciding.ensures T) c.requires.1.fits clear c.put_offsets.ensures
