-- By whether the field is there.
use Rattle.write_fields.proofs.Records.{size_absent, size_there}
use Rattle.write_fields.proofs.field_size.Goals as goal

pub returns-in-None : goal.returns-in-None
returns-in-None c = size_absent c.in-None.is

pub returns-in-Some : goal.returns-in-Some
returns-in-Some c = size_there c.in-Some.is
