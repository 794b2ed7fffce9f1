-- What is gathered, with the rows of the steps that are left, stays the same.
use Rattle.std.proofs.Common.{ℕ, ◌≡◌}
use Rattle.order_forward.proofs.Drawing.{with_rows}
use Rattle.order_forward.proofs.gather.Given as goal

abbrev pub invariant-loop-u : goal.invariant-loop-u
invariant-loop-u l = (a : ℕ) → with_rows l.rows l.all l.u-iterator.left a ≡ with_rows l.rows l.own l.steps a
