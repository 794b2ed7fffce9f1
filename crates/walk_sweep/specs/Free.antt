-- Visits of steps on a column where none is sought, as where closed walks may weigh more than 0.
use Rattle.std.specs.Prelude.{◌≡◌, Bool, ℕ, ◌+◌, ◌*◌, ◌≤◌, ◌<◌}
use Rattle.definitions.specs.Limits.{most_gain}
use Rattle.definitions.specs.Links.{Edge, Graph}
use Rattle.walk_edge.specs.Columns.{Covered}
use Rattle.theory.specs.Graphs.{Gains}

-- Every step below n holds a walk, none says more than b, and no other step holds one.
pub record Low (n b : ℕ) (r : ℕ → ℕ) : Type 0 where
  pub live : (v : ℕ) → v < n → 1 ≤ r v
  pub most : (v : ℕ) → r v ≤ b
  pub none : (v : ℕ) → n ≤ v → r v ≡ 0

-- The edges lead to steps below n and gain what an edge of a sheet may.
pub record Sheetlike (E : Graph) (n : ℕ) : Type 0 where
  pub ends : (e : Edge) → E e → e.to < n
  pub gains : Gains E most_gain

-- At most c visits, one after another: each raises cells by one gain at most.
pub record Free (E : Graph) (c : ℕ) (r s : ℕ → ℕ) (f g : ℕ → Bool) : Type 0 where
  pub low : (n b : ℕ) → Sheetlike E n → Low n b r → Low n (b + most_gain * c) s
  pub covers : (n b : ℕ) → Sheetlike E n → Low n b r → Covered E r f → Covered E s g
