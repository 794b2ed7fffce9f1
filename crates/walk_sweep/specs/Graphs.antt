-- The edges that a sweep goes over for anchor a: those of a list of words that walks from its end may use, and the waits that maps hold, bit i of map b where i waits for b.
-- A wait gains the least of what it waits for.
use Rattle.std.specs.Prelude.{◌≡◌, true, ◌⊎◌, List, ℕ, ◌+◌, ◌*◌, ◌<◌, ◌≤◌, ℤ, length, get_or}
use Rattle.definitions.specs.Basics.{test_bit}
use Rattle.definitions.specs.Limits.{most_gain, most_steps}
use Rattle.definitions.specs.Links.{Graph, UsableFrom, members}
use Rattle.data_edges.specs.Serial.{Within}
use Rattle.data_edges.specs.Words.{EndsBelow, graph}
use Rattle.walk_cells.specs.Cells.{most_weight}
use Rattle.walk_cells.specs.Tables.{Held, Square}
use Rattle.walk_lift.specs.Lifts.{Movables, Ready}
use Rattle.walk_edge.specs.Columns.{Numbers, Swept, WaitsFor, column}
use Rattle.walk_sweep.specs.Free.{Free}

abbrev pub Both : List ℕ → (ℕ → ℕ) → List ℕ → ℕ → Graph
Both es least waiting a e = UsableFrom (members (graph es)) a e ⊎ WaitsFor (least e.from) e.from (get_or waiting e.from 0) e

-- Edges, over a table that has a row for each end.
pub record Linked (es : List ℕ) (d : List (List ℤ)) : Type 0 where
  pub ends : EndsBelow es (length d)
  pub square : Square (length d) d

-- The same with waits, and a row for each step that waits.
pub record Network (es waiting : List ℕ) (d : List (List ℤ)) : Type 0 where
  pub linked : Linked es d
  pub waits : Within (length d) waiting

-- A row of step u, made ready, can go along its edges.
pub record Pushable (u width top : ℕ) (es : List ℕ) (row : List ℤ) (d : List (List ℤ)) : Type 0 where
  pub below : u < most_steps
  pub few : width ≤ 64
  pub linked : Linked es d
  pub ready : Ready row width top

-- A row, made ready, can go to what waits, by a map.
pub record Tellable (waiting width : ℕ) (row : List ℤ) (d : List (List ℤ)) : Type 0 where
  pub few : width ≤ 64
  pub inside : (i : ℕ) → test_bit waiting i ≡ true → i < length d
  pub square : Square (length d) d
  pub movable : Movables row width

-- Step u can hand on, with a row lent to it as a place to work in.
pub record Visitable (u width : ℕ) (es waiting : List ℕ) (row : List ℤ) (d : List (List ℤ)) : Type 0 where
  pub below : u < most_steps
  pub inside : u < length d
  pub few : width ≤ 64
  pub network : Network es waiting d
  pub held : Held most_weight d
  pub long : length row ≡ 64

-- The visits of one sweep: by the order so many, some of them spare, that mostly nothing is left, and then one of each step. More by the order cost more than they bring where returns are many.
abbrev pub spare_visits : ℕ
spare_visits = 96

abbrev pub visits : ℕ → ℕ
visits n = n + (n + spare_visits)

abbrev pub most_visits : ℕ
most_visits = visits most_steps

-- The steps below n can, in so many sweeps: each visit raises cells by one gain at most.
pub record Sweepable (sweeps n width : ℕ) (es waiting : List ℕ) (d : List (List ℤ)) : Type 0 where
  pub some : 1 ≤ n
  pub few : n ≤ most_steps
  pub inside : n ≤ length d
  pub narrow : width ≤ 64
  pub network : Network es waiting d
  pub level : ℕ
  pub held : Held level d
  pub room : level + most_gain * (most_visits * sweeps) ≤ most_weight

-- So many visits are left of those of n steps, and a mark.
pub record Next (k n left : ℕ) : Type 0 where
  pub some : 1 ≤ n
  pub few : n ≤ most_steps
  pub more : 0 < k
  pub marked : 0 < left

-- Steps hand on in every numbered column, each in the graph of its anchor, by at most c visits.
pub record SweptBy (es : List ℕ) (least : ℕ → ℕ) (waiting number : List ℕ) (width : ℕ) (On : ℕ → Type 0) (c : ℕ) (d d' : List (List ℤ)) (m m' : ℕ) : Type 0 where
  pub square : Square (length d) d'
  pub each : (anchor : ℕ → ℕ) → Numbers width number anchor → (k : ℕ) → k < width → Swept (Both es least waiting (anchor k)) On (column d k) (column d' k) (test_bit m) (test_bit m')
  pub free : (anchor : ℕ → ℕ) → Numbers width number anchor → (k : ℕ) → k < width → Free (Both es least waiting (anchor k)) c (column d k) (column d' k) (test_bit m) (test_bit m')
  pub held : (w : ℕ) → Held w d → Held (w + most_gain * c) d'
