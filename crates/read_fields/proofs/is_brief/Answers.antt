-- `read_fields::is_brief` meets its contract: R is compared, once both its bytes are there.
use mathlib.Core.Path.{sym}
use native.Mathlib.Omega.{arith}
use Rattle.read_fields.proofs.Counts.{brief_there, brief_refused}
use Rattle.read_fields.proofs.is_brief.Goals as goal

pub returns-in-Ok : goal.returns-in-Ok
returns-in-Ok c = brief_there c.args.s.now _ (sym c.in-Ok.ensures.same) (omega arith)

pub returns-in-Err : goal.returns-in-Err
returns-in-Err c = brief_refused c.args.s.now _ (sym c.in-Err.ensures.same)
