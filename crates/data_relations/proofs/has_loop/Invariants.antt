-- `data_relations::has_loop` meets its contract. Invariant: no number below v is related to itself.
use mathlib.Core.Path.{◌≡◌}
use mathlib.Core.Bool.{false}
use Prim.Native.Nat.{ℕ}
use Rattle.definitions.specs.Basics.{any_below}
use Rattle.data_relations.specs.Rows.{row_bit}
use Rattle.data_relations.proofs.has_loop.Given as goal

abbrev pub invariant-loop-v : goal.invariant-loop-v
invariant-loop-v l = any_below (λ (w : ℕ). row_bit l.rows w w) l.v ≡ false
