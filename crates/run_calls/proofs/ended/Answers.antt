-- One bit, shifted to its place.
use Rattle.std.proofs.Common.{arith}
use Rattle.laws.proofs.Maps.{one_shl}
use Rattle.run_calls.proofs.CallLaws.{ended_now}
use Rattle.run_calls.proofs.ended.Goals as goal

pub returns : goal.returns
returns c = ended_now _ _ (one_shl _ (omega arith))
