-- `c_planner::standplan_steps` meets its contract: what run_sheet leaves, and its status as a number.
use Rattle.c_planner.proofs.Codes.{begins_into}
use Rattle.c_planner.proofs.standplan_steps.Goals as goal

pub returns : goal.returns
returns c = begins_into c.steps.ensures c.status_code.ensures
