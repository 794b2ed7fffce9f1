-- The first cells of a row, made ready to be handed on, and how many of them are worth it.
use Rattle.std.specs.Prelude.{◌≡◌, ◌≢◌, List, [], ℕ, suc, ◌≤◌, ◌<◌, ℤ, length, get_or}
use Rattle.walk_cells.specs.Cells.{Movable, most_weight, value}
use Rattle.walk_cells.specs.Tables.{Target, cell_of}
use Rattle.walk_lift.specs.Lifts.{Ready}

-- A row of 64 cells, of which the first `width` are asked for.
pub record Trimmable (cells : List ℤ) (width : ℕ) : Type 0 where
  pub few : width ≤ 64
  pub long : length cells ≡ 64

-- From `own` on no cell below `width` holds a walk.
pub record Trimmed (cells : List ℤ) (width own : ℕ) : Type 0 where
  pub fits : own ≤ 64
  pub none : (k : ℕ) → own ≤ k → k < width → value (cell_of cells k) ≡ 0

-- A table that has row u, whose cells can be moved from, and a row of 64 cells to put `width` of them into.
pub record Takeable (u width : ℕ) (d : List (List ℤ)) (row : List ℤ) : Type 0 where
  pub target : Target u width d
  pub low : (k : ℕ) → value (cell_of (get_or d u []) k) ≤ suc most_weight
  pub long : length row ≡ 64

-- The cell in column k of a row is made ready and says what that of a row of the table says, which weighs no more than w; no other changed.
pub record CopiedCell (cells row row' : List ℤ) (k w : ℕ) : Type 0 where
  pub long : length row' ≡ 64
  pub movable : Movable (cell_of row' k)
  pub same : value (cell_of row' k) ≡ value (cell_of cells k)
  pub weighs : value (cell_of cells k) ≤ suc w
  pub keeps : (j : ℕ) → j ≢ k → cell_of row' j ≡ cell_of row j

-- The cells of `row` below `width` are made ready and say what the cells of a row of the table say; none weighs more than `top`.
pub record Taken (cells row : List ℤ) (width top : ℕ) : Type 0 where
  pub ready : Ready row width top
  pub same : (k : ℕ) → k < width → value (cell_of row k) ≡ value (cell_of cells k)
