-- `walk_feasible::pass` meets its contract: the visits in the order, and those on the way back.
use native.Mathlib.Omega.{arith}
use mathlib.Core.Logic.{inr}
use Rattle.definitions.specs.Limits.{most_steps}
use Rattle.walk_feasible.specs.Search.{pass_visits}
use Rattle.walk_feasible.proofs.Passing.{passed_room, passed_then, room_less}
use Rattle.walk_feasible.proofs.pass.Goals as goal

pub pass_order-m-requires : goal.pass_order-m-requires
pass_order-m-requires c = (c.requires.0, room_less most_steps pass_visits (omega arith) c.requires.1)

pub pass_down-requires : goal.pass_down-requires
pass_down-requires c = passed_room most_steps most_steps pass_visits (omega arith) c.requires.1 c.pass_order-m.ensures

pub returns : goal.returns
returns c = passed_then (λ v x. inr x) (omega arith) c.pass_order-m.ensures c.pass_down.ensures
