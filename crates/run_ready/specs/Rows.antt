-- A row of the table by itself, as the code looks at it.
use Rattle.std.specs.Prelude.{Bool, not, ◌&&◌, ◌||◌, List, ℕ, ◌+◌, ◌*◌, ◌≤◌, ◌<◌, eqb, leb, get_or, length}
use Rattle.definitions.specs.Basics.{any_below, all_below, test_bit}
use Rattle.definitions.specs.Limits.{most_steps}
use Rattle.definitions.specs.Plan.{undecided}

-- The table has row v of n.
pub record RowThere (n v : ℕ) (table : List ℕ) : Type 0 where
  pub few : n ≤ most_steps
  pub exists : v < n
  pub long : n * n ≤ length table

-- Step a, named with an offset, has finished and its offset has run out.
unfoldable pub due_in : ℕ → List ℕ → ℕ → ℕ → ℕ → Bool
due_in finished finish clock a offset = test_bit finished a && leb (get_or finish a 0 + offset) clock

-- The row names step a.
unfoldable pub names_in : List ℕ → ℕ → Bool
names_in row a = not (eqb (get_or row a 0) undecided)

-- The row names some step, and each that it names is due.
unfoldable pub row_ready : ℕ → List ℕ → ℕ → List ℕ → ℕ → Bool
row_ready finished finish clock row n = any_below (names_in row) n && all_below (λ a. not (names_in row a) || due_in finished finish clock a (get_or row a 0)) n
