-- The two numbers of step k.
use Rattle.write_numbers.specs.Decoding.{step_at}
use Rattle.write_numbers.proofs.step_at.Goals as goal

pub returns : goal.returns
unfolding step_at
returns c = c.step_from.ensures
