-- The place is inside the plan, and what is read there is the entry.
use Rattle.price_counts.proofs.Entries.{entry_read}
use Rattle.price_counts.proofs.entry.Goals as goal

pub returns : goal.returns
returns c = entry_read _ _ _ _ c.requires.row c.requires.column c.requires.planned.long
