-- `judge_waits::hold_up` meets its contract: a return holds up those that reach its start, may use it and are not in its end's set.
use Rattle.data_edges.specs.Words.{unpack}
use Rattle.judge_waits.proofs.Waiting.{held_store}
use Rattle.judge_waits.proofs.hold_up.Goals as goal

pub returns : goal.returns
returns c =
    let to = c.edge_to-i.ensures in
    held_store c.args.reach.now c.args.sets.now _ (unpack c.args.w) c.told-maps _ _ _ _ _ to.0 to.1 c.edge_from-j.ensures.0 c.requires c.usable_by-users.ensures c.minus-held.ensures c.union.ensures
