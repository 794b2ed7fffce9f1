-- By the delay, and whether it is 0.
use Rattle.write_fields.proofs.Records.{duration_open, duration_none, duration_there}
use Rattle.write_fields.proofs.duration.Goals as goal

pub returns-in-Open : goal.returns-in-Open
returns-in-Open c = duration_open c.in-Open.is

pub returns-in-Fixed-eq0 : goal.returns-in-Fixed-eq0
returns-in-Fixed-eq0 c = duration_none c.in-Fixed-eq0.is (cc)

pub returns-in-Fixed : goal.returns-in-Fixed
returns-in-Fixed c = duration_there c.in-Fixed.is (rw c.in-Fixed.is at c.in-Fixed.x-test.1)
