-- By whether the field is there.
use Rattle.write_fields.proofs.Records.{bit_absent, bit_there}
use Rattle.write_fields.proofs.bound_bit.Goals as goal

pub returns-in-None : goal.returns-in-None
returns-in-None c = bit_absent c.in-None.is

pub returns-in-Some : goal.returns-in-Some
returns-in-Some c = bit_there c.in-Some.is
