-- `order_reach::join` meets its contract.
use Rattle.order_reach.proofs.Pushing.{joined}
use Rattle.order_reach.proofs.join.Goals as goal

pub returns : goal.returns
returns c = joined _ _ _ _ _ _ c.told-rows c.requires c.union-new.ensures c.insert_if.ensures
