-- The invariant: the first v rows stand at the front, and behind them what was cleared.
use Rattle.std.proofs.Common.{◌≡◌, ℕ, ◌*◌, ◌<◌, ◌++◌, length, drop}
use Rattle.plan_deciding.specs.Working.{Orderly, cells_in}
use Rattle.plan_table.specs.Rows.{first_rows}
use Rattle.plan_table.proofs.fill_plan.Given as goal

abbrev pub invariant-loop-v : goal.invariant-loop-v
invariant-loop-v l = (length l.table ≡ length l.fn.table) × (((u : ℕ) → u < l.n → Orderly (cells_in l.t) l.t.sets.now u) → l.table ≡ first_rows (cells_in l.t) l.t.leasts.now l.t.sets.now l.n l.v ++ drop (l.v * l.n) l.initial.table)
