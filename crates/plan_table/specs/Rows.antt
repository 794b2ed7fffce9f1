-- The plan's table, a row at a time, as it is read off the working tables.
use Rattle.std.specs.Prelude.{◌≡◌, Bool, true, cond, List, [], ◌++◌, ℕ, zero, suc, ◌*◌, ◌<◌, ◌≤◌, ℤ, length, get_or, drop}
use Rattle.definitions.specs.Basics.{tabulate}
use Rattle.definitions.specs.Limits.{most_steps}
use Rattle.definitions.specs.Links.{Edge, members}
use Rattle.definitions.specs.Plan.{plan_table, undecided}
use Rattle.theory.specs.Graphs.{Lasting}
use Rattle.walk_cells.specs.Tables.{Rows}
use Rattle.plan_deciding.specs.Working.{Holds, HoldsLeasts, Orderly, deciding, member, offset_in}

-- A row of members that do not decide.
abbrev pub cleared : ℕ → ℕ
cleared a = undecided

-- A row of n entries has room at the front of the lent numbers.
pub record Room (n : ℕ) (row : List ℕ) : Type 0 where
  pub few : n ≤ most_steps
  pub fits : n ≤ length row

-- The places below n that pass a test have their values, every other is as it was.
pub record Put (n : ℕ) (test : ℕ → Bool) (value : ℕ → ℕ) (row row' : List ℕ) : Type 0 where
  pub long : length row' ≡ length row
  pub front : (a : ℕ) → a < n → get_or row' a 0 ≡ cond (test a) (value a) (get_or row a 0)
  pub rest : (a : ℕ) → n ≤ a → get_or row' a 0 ≡ get_or row a 0

-- The plan's entries, and its first v rows.
unfoldable pub entry_at : List (List ℕ) → List ℕ → List ℕ → ℕ → ℕ → ℕ
entry_at d leasts sets v a = cond (deciding d sets v a) (offset_in d leasts v a) undecided

unfoldable pub first_rows : List (List ℕ) → List ℕ → List ℕ → ℕ → ℕ → List ℕ
first_rows d leasts sets n zero = []
first_rows d leasts sets n (suc v) = first_rows d leasts sets n v ++ tabulate (entry_at d leasts sets v) n

-- The lent numbers after a plan is written to their front, where the tables are orderly: what is read off them, on those of an edge list and its leasts the plan's table.
pub record Planned (n : ℕ) (d : List (List ℕ)) (leasts sets lent after : List ℕ) : Type 0 where
  pub read : ((v : ℕ) → v < n → Orderly d sets v) → after ≡ first_rows d leasts sets n n ++ drop (n * n) lent
  pub plan : (least : ℕ → ℕ) (es : List Edge) → Lasting n least (members es) → HoldsLeasts n least leasts → Holds n es d sets → ((v : ℕ) → v < n → Orderly d sets v) → after ≡ plan_table n least es ++ drop (n * n) lent

-- Tables with a row for each step below n and each member, and room for the plan's table.
pub record Plannable (n : ℕ) (sets : List ℕ) (d : List (List ℤ)) (table : List ℕ) : Type 0 where
  pub rows : Rows n d
  pub members : (v a : ℕ) → v < n → member sets v a ≡ true → a < length d
  pub room : n * n ≤ length table
