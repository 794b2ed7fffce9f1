-- By whether the field is there.
use native.Mathlib.Omega.{arith}
use Rattle.data_buffers.proofs.Writing.{put_as, put_none}
use Rattle.write_fields.proofs.Records.{field_absent, field_there, size_there}
use Rattle.write_fields.proofs.put_field.Goals as goal

pub put_number-requires : goal.put_number-requires
put_number-requires c = omega (arith, c.requires, (size_there c.in-Some.is).same)

pub returns-in-None : goal.returns-in-None
returns-in-None c = put_as (field_absent c.in-None.is) (put_none _ _)

pub returns-in-Some : goal.returns-in-Some
returns-in-Some c = put_as (field_there c.in-Some.is) c.put_number.ensures
