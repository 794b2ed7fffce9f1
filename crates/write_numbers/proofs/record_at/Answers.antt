-- The seven numbers of record k.
use Rattle.write_numbers.specs.Decoding.{record_at}
use Rattle.write_numbers.proofs.record_at.Goals as goal

pub returns : goal.returns
unfolding record_at
returns c = c.record_from.ensures
