-- Sweeps over a working table until nothing is left to hand on, and what its numbered columns then say. The terms are those of walk_edge's specs/Columns.antt.
use Rattle.std.specs.Prelude.{◌≡◌, Bool, true, List, ◌++◌, ℕ, ◌<◌, ◌≤◌, ltb, ℤ, length, get_or}
use Rattle.definitions.specs.Anchors.{WellPosed}
use Rattle.definitions.specs.Basics.{test_bit}
use Rattle.definitions.specs.Limits.{most_gain, most_steps}
use Rattle.definitions.specs.Links.{Edge, Graph, members}
use Rattle.definitions.specs.Plan.{offset_row}
use Rattle.definitions.specs.Rounds.{cell, entry}
use Rattle.data_edges.specs.Serial.{Within, wait_edges}
use Rattle.data_edges.specs.Words.{EndsBelow, graph}
use Rattle.walk_feasible.specs.Search.{rests}
use Rattle.data_relations.specs.Rows.{row_bit}
use Rattle.walk_cells.specs.Tables.{Square, read_by}
use Rattle.walk_edge.specs.Columns.{Covered, Numbers, Sought, column}
use Rattle.walk_seed.specs.Seeds.{Blank, Empty}
use Rattle.walk_sweep.specs.Graphs.{Both, SweptBy, visits}
use Rattle.theory.specs.Graphs.{Gains, Rooted, Shape, SheetLeasts, Well}
use Rattle.theory.specs.Sweeps.{Sweeps}

-- n sweeps over one column, where the edges leave the steps below n alone. Below a column that is sought nothing is raised above it.
pub record Settled (E : Graph) (n : ℕ) (r s : ℕ → ℕ) : Type 0 where
  pub under : (t : ℕ → ℕ) → Sought E t r → Sought E t s
  pub sweeps : (t : ℕ → ℕ) → Sought E t r → ((e : Edge) → E e → e.from < n) → Sweeps E r n s

-- The same for every numbered column, each in the graph of its anchor.
pub record SettledBy (es : List ℕ) (least : ℕ → ℕ) (waiting number : List ℕ) (width n : ℕ) (d d' : List (List ℤ)) : Type 0 where
  pub square : Square (length d) d'
  pub each : (anchor : ℕ → ℕ) → Numbers width number anchor → (k : ℕ) → k < width → Settled (Both es least waiting (anchor k)) n (column d k) (column d' k)

-- k sweeps over one column, where the edges leave the steps below n alone, and what its marks then say.
pub record Settling (E : Graph) (n k : ℕ) (r s : ℕ → ℕ) (g : ℕ → Bool) : Type 0 where
  pub under : (t : ℕ → ℕ) → Sought E t r → Sought E t s
  pub covers : (t : ℕ → ℕ) → Sought E t r → ((e : Edge) → E e → e.from < n) → Covered E s g
  pub sweeps : (t : ℕ → ℕ) → Sought E t r → ((e : Edge) → E e → e.from < n) → Sweeps E r k s

pub record SettlingBy (es : List ℕ) (least : ℕ → ℕ) (waiting number : List ℕ) (width n k : ℕ) (d d' : List (List ℤ)) (m : ℕ) : Type 0 where
  pub square : Square (length d) d'
  pub each : (anchor : ℕ → ℕ) → Numbers width number anchor → (c : ℕ) → c < width → Settling (Both es least waiting (anchor c)) n k (column d c) (column d' c) (test_bit m)

-- The first sweep, of few visits: every step below n has a mark before it.
pub record Opened (es : List ℕ) (least : ℕ → ℕ) (waiting number : List ℕ) (width n : ℕ) (d d' : List (List ℤ)) (m : ℕ) : Type 0 where
  pub marks : ℕ
  pub all : (v : ℕ) → test_bit marks v ≡ ltb v n
  pub swept : SweptBy es least waiting number width (λ v. v < n) (visits n) d d' marks m

-- The members of a in sets are the steps that have an offset for a.
abbrev pub Supported : ℕ → List Edge → List ℕ → ℕ → Type 0
Supported n g sets a = (v : ℕ) → v < n → row_bit sets v a ≡ ltb 0 (cell (offset_row n g a) v)

-- All sweeps, and whether 10 does not apply. It is known where a first sweep that leaves no mark says so.
pub record SettledIf (es : List ℕ) (least : ℕ → ℕ) (waiting number : List ℕ) (width n : ℕ) (d d' : List (List ℤ)) (r : Bool) : Type 0 where
  pub square : Square (length d) d'
  pub settled : r ≡ true → SettledBy es least waiting number width n d d'
  pub told : Shape n (members (graph es)) → Rooted n (members (graph es)) → ((d₁ : List (List ℤ)) (m : ℕ) → Opened es least waiting number width n d d₁ m → m ≡ 0 → rests n es ≡ true) → r ≡ rests n es

-- What heaviest walks are sought over: the edges of a sheet of n steps, and an empty table with a row for each step below n and each end, of which no column has a number.
pub record Seekable (n : ℕ) (es number : List ℕ) (d : List (List ℤ)) : Type 0 where
  pub some : 1 ≤ n
  pub few : n ≤ most_steps
  pub inside : n ≤ length d
  pub bare : Empty d
  pub blank : Blank number
  pub ends : EndsBelow es (length d)

-- The edges with the waits that maps hold.
abbrev pub waited : ℕ → List ℕ → (ℕ → ℕ) → List ℕ → List Edge
waited n es least maps = graph es ++ wait_edges n least maps

-- What is found where 10 does not apply: in row v and the column of anchor a the cell of step v for a, over the edges and the waits, where a is a member of row v of sets; for an anchor whose members in sets are the steps that its walks reach.
-- The column of step 0, where it is a member at all, is the first.
pub record Found (n : ℕ) (es : List ℕ) (least : ℕ → ℕ) (maps sets number : List ℕ) (d d' : List (List ℤ)) (r : Bool) : Type 0 where
  pub square : Square (length d) d'
  pub cells : r ≡ true → Within n maps → SheetLeasts least (members (graph es)) → Well n (members (waited n es least maps)) → WellPosed (members (waited n es least maps)) → Gains (members (waited n es least maps)) most_gain → (a : ℕ) → a < n
      → Supported n (waited n es least maps) sets a → (v : ℕ) → v < n → row_bit sets v a ≡ true → entry (read_by number d') v a ≡ cell (offset_row n (waited n es least maps) a) v
  pub told : Shape n (members (graph es)) → Rooted n (members (graph es)) → Gains (members (graph es)) most_gain → SheetLeasts least (members (graph es)) → ((v : ℕ) → v < n → row_bit sets v 0 ≡ true) → r ≡ rests n es
  pub first : (v : ℕ) → v < n → row_bit sets v 0 ≡ true → get_or number 0 0 ≡ 0
