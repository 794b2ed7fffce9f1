-- Start times, as they are read off the working tables by turns of document 01's rule.
use Rattle.std.specs.Prelude.{◌≡◌, List, ◌++◌, ℕ, zero, suc, ◌+◌, ◌<◌, ◌≤◌, min, ℤ, length, get_or, drop, replicate}
use Rattle.definitions.specs.Basics.{largest, tabulate}
use Rattle.definitions.specs.Limits.{most_steps}
use Rattle.definitions.specs.Links.{Edge}
use Rattle.definitions.specs.Plan.{delays, start_times}
use Rattle.definitions.specs.Rounds.{cell}
use Rattle.walk_cells.specs.Tables.{Rows}
use Rattle.plan_deciding.specs.Working.{Holds, HoldsLeasts, Row, offset_in, member}

-- The largest number of 32 bits: document 01's numbers have so many.
abbrev pub cut : ℕ
cut = 4294967295

-- One term, and the largest of them, cut there.
unfoldable pub term : List (List ℕ) → List ℕ → List ℕ → List ℕ → ℕ → ℕ → ℕ
term d leasts list row v a = cell row a + get_or list a 0 + offset_in d leasts v a

unfoldable pub start_at : List (List ℕ) → List ℕ → List ℕ → ℕ → List ℕ → List ℕ → ℕ → ℕ
start_at d leasts sets n list row zero = 0
start_at d leasts sets n list row (suc v) = min (largest (member sets (suc v)) (term d leasts list row (suc v)) n) cut

-- A turn of the rule over a row of 64 numbers of which n count, and k turns.
unfoldable pub next_row : List (List ℕ) → List ℕ → List ℕ → ℕ → List ℕ → List ℕ → List ℕ
next_row d leasts sets n list row = tabulate (start_at d leasts sets n list row) n ++ drop n (replicate 64 0)

unfoldable pub row_after : List (List ℕ) → List ℕ → List ℕ → ℕ → List ℕ → ℕ → List ℕ
row_after d leasts sets n list zero = replicate 64 0
row_after d leasts sets n list (suc k) = next_row d leasts sets n list (row_after d leasts sets n list k)

-- The lent numbers after start times are written to their front: on any tables what is read off them, on those of an edge list and any leasts its starts, where these have 32 bits.
pub record Started (n : ℕ) (d : List (List ℕ)) (leasts sets list lent after : List ℕ) : Type 0 where
  pub read : after ≡ tabulate (cell (row_after d leasts sets n list n)) n ++ drop n lent
  pub times : (least : ℕ → ℕ) (es : List Edge) → HoldsLeasts n least leasts → Holds n es d sets → ((v : ℕ) → v < n → cell (start_times n least es (delays list)) v < cut + 1) → after ≡ start_times n least es (delays list) ++ drop n lent

-- A list of durations with an entry for each step below n.
pub record Listed (n : ℕ) (list : List ℕ) : Type 0 where
  pub few : n ≤ most_steps
  pub long : n ≤ length list

-- A step that the table has a row for, and an anchor that has an entry in the list.
pub record Member (v a : ℕ) (d : List (List ℤ)) (list : List ℕ) : Type 0 where
  pub row : Row v d
  pub column : a < 64
  pub entered : a < length list

-- A table and a list for the steps below n, and room for their starts.
pub record Startable (n : ℕ) (d : List (List ℤ)) (list out : List ℕ) : Type 0 where
  pub rows : Rows n d
  pub long : n ≤ length list
  pub room : n ≤ length out
