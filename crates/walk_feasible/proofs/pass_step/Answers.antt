-- `walk_feasible::pass_step` meets its contract: a step without a mark has nothing to hand on; one with a mark loses it, and its edges hand on.
use Rattle.walk_feasible.proofs.Passing.{passed_same, passed_visit}
use Rattle.walk_feasible.proofs.pass_step.Goals as goal

pub returns-then-rest-marks : goal.returns-then-rest-marks
returns-then-rest-marks c = passed_same _ _ _ c.remove-rest.ensures c.if-rest-marks.true c.told-row c.told-via

pub returns : goal.returns
returns c = passed_visit _ _ c.args.es.listed.light c.remove-rest.ensures c.push_step.ensures
