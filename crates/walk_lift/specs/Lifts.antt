-- A row of cells handed on along one edge, by delta, what the edge gains less what it loses.
use Rattle.std.specs.Prelude.{◌≡◌, true, false, cond, ◌≢◌, List, ℕ, suc, ◌+◌, ◌%◌, ◌≤◌, ◌<◌, ltb, ℤ, length}
use Rattle.definitions.specs.Basics.{test_bit}
use Rattle.walk_cells.specs.Cells.{Movable, Risen, Small, value}
use Rattle.walk_cells.specs.Tables.{Square, Target, cell_at, cell_of}

-- The first `width` cells of a row of 64 can be moved, four at a time.
pub record Movables (row : List ℤ) (width : ℕ) : Type 0 where
  pub long : length row ≡ 64
  pub fours : width % 4 ≡ 0
  pub each : (k : ℕ) → k < width → Movable (cell_of row k)

-- They are made ready to be handed on: none weighs more than `top`.
pub record Ready (row : List ℤ) (width top : ℕ) : Type 0 where
  pub movable : Movables row width
  pub tops : (k : ℕ) → k < width → value (cell_of row k) ≤ suc top

-- What they say; those beyond hand on nothing.
abbrev pub lent : List ℤ → ℕ → ℕ → ℕ
lent row width k = cond (ltb k width) (value (cell_of row k)) 0

-- The cells of row `to` in the columns of On rose to what moves there; no other cell changed.
pub record Lifted (On : ℕ → Type 0) (to : ℕ) (delta : ℤ) (row : List ℤ) (d d' : List (List ℤ)) : Type 0 where
  pub square : Square (length d) d'
  pub lifts : (k : ℕ) → On k → Risen (cell_at d to k) (cell_of row k) delta (cell_at d' to k)
  pub keeps : (k : ℕ) → ¬ On k → cell_at d' to k ≡ cell_at d to k
  pub other : (v k : ℕ) → v ≢ to → cell_at d' v k ≡ cell_at d v k

-- The row did not change.
abbrev pub Still : ℕ → List (List ℤ) → List (List ℤ) → Type 0
Still to d d' = (k : ℕ) → cell_at d' to k ≡ cell_at d to k

-- The same with marks: none is taken away, and row `to` has one where a cell of it changed.
pub record Raised (On : ℕ → Type 0) (to : ℕ) (delta : ℤ) (row : List ℤ) (d d' : List (List ℤ)) (m m' : ℕ) : Type 0 where
  pub lifted : Lifted On to delta row d d'
  pub marks : (v : ℕ) → test_bit m v ≡ true → test_bit m' v ≡ true
  pub marked : (v k : ℕ) → test_bit m' v ≡ false → cell_at d' v k ≡ cell_at d v k

-- Row `to` is there to be raised, by the first cells of another row, moved by delta.
pub record Liftable (to width : ℕ) (delta : ℤ) (row : List ℤ) (d : List (List ℤ)) : Type 0 where
  pub target : Target to width d
  pub movable : Movables row width
  pub small : Small delta

-- The same for the cell in column k alone.
pub record LiftableCell (to k : ℕ) (delta : ℤ) (row : List ℤ) (d : List (List ℤ)) : Type 0 where
  pub target : Target to (k + 1) d
  pub long : length row ≡ 64
  pub movable : Movable (cell_of row k)
  pub small : Small delta
