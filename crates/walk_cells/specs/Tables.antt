-- The working table, by rows of steps.
use Rattle.std.specs.Prelude.{◌≡◌, List, [], map, ℕ, suc, ◌%◌, ◌<◌, ◌≤◌, ℤ, length, get_or}
use Rattle.definitions.specs.Basics.{tabulate}
use Rattle.definitions.specs.Limits.{most_steps}
use Rattle.walk_cells.specs.Cells.{none, value}

-- The cell in column k of a row, and that of row v; none where there is no such place.
abbrev pub cell_of : List ℤ → ℕ → ℤ
cell_of row k = get_or row k none

abbrev pub cell_at : List (List ℤ) → ℕ → ℕ → ℤ
cell_at d v k = cell_of (get_or d v []) k

-- What the cells of a table say.
unfoldable pub said : List (List ℤ) → List (List ℕ)
said d = map (map value) d

-- While walks are sought an anchor has a column, by its number. What the cells in the columns of the anchors say, a row of all 64 anchors for each row of the table.
abbrev pub column_of : List ℕ → ℕ → ℕ
column_of number a = get_or number a 0 % 64

unfoldable pub read_by : List ℕ → List (List ℤ) → List (List ℕ)
read_by number d = map (λ row. tabulate (λ a. value (cell_of row (column_of number a))) 64) d

-- n rows of 64 cells.
pub record Square (n : ℕ) (d : List (List ℤ)) : Type 0 where
  pub rows : length d ≡ n
  pub cells : (v : ℕ) → v < n → length (get_or d v []) ≡ 64

-- A table that has row v, and columns enough.
pub record Target (v width : ℕ) (d : List (List ℤ)) : Type 0 where
  pub row : v < length d
  pub few : width ≤ 64
  pub square : Square (length d) d

-- A table that has a row for each step below n.
pub record Rows (n : ℕ) (d : List (List ℤ)) : Type 0 where
  pub few : n ≤ most_steps
  pub inside : n ≤ length d
  pub square : Square (length d) d

-- No cell says more than the weight w.
pub record Held (w : ℕ) (d : List (List ℤ)) : Type 0 where
  pub most : (v k : ℕ) → value (cell_at d v k) ≤ suc w
