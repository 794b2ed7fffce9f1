-- `order_steps::place` meets its contract: the steps right before u that are left are those of both maps.
use borrow.Author.Rules.{rules}
use mathlib.Core.Path.{refl}
use mathlib.Core.Logic.{inl, inr}
use native.Mathlib.Omega.{arith}
use Rattle.order_steps.proofs.Placing.{blocked_by, none_blocks}
use Rattle.order_steps.proofs.place.Goals as goal

pub returns-then-blocking-ne0 : goal.returns-then-blocking-ne0
returns-then-blocking-ne0 c = inl (record { blocked = blocked_by _ _ _ c.both-blocking.ensures (search rules) (λ e. omega arith); same_order = refl; same_left = refl; same_placed = refl })

pub returns : goal.returns
returns c = inr (record { free = none_blocks _ _ _ c.both-blocking.ensures (omega arith); stores = refl; leaves = c.remove-left.ensures; next = refl })
