use Rattle.run_calls.proofs.CallLaws.{fresh_with}
use Rattle.run_calls.proofs.fresh.Goals as goal

pub returns : goal.returns
returns c = fresh_with _ _ _ c.kept_leasts.ensures
