-- What the working table and the anchor sets of a sheet's edges are made from, and what they hold.
use Rattle.std.specs.Prelude.{◌≡◌, Bool, true, List, ℕ, ◌≤◌, ℤ, length, replicate}
use Rattle.judge_edges.specs.Analysis.{Listed}
use Rattle.judge_edges.specs.declared.Found.{Found}
use Rattle.definitions.specs.Answers.{judge_edges}
use Rattle.definitions.specs.Limits.{most_edges, most_gain, most_steps}
use Rattle.definitions.specs.Links.{Edge, members}
use Rattle.definitions.specs.Numbers.{verdict_of}
use Rattle.definitions.specs.Rounds.{rounds, source_row, stable}
use Rattle.definitions.specs.Waits.{serialized, wait_maps}
use Rattle.data_edges.specs.Words.{graph}
use Rattle.plan_deciding.specs.Working.{Holds}
use Rattle.data_numbers.specs.Codes.{is_given}
use Rattle.walk_cells.specs.Tables.{Rows, read_by}
use Rattle.walk_seed.specs.Seeds.{Blank as Unnumbered, Empty}
use Rattle.theory.specs.Graphs.{Gains, Serializable, SheetGraph, SheetLeasts, Well}
use Rattle.judge_waits.specs.Reaching.{Reaches}

-- The edges of a sheet of n steps, as words, and the leasts of the steps: within the limits of a sheet, and shaped as its links make them.
pub record SheetEdges (n : ℕ) (least : ℕ → ℕ) (es : List ℕ) : Type 0 where
  pub some : 1 ≤ n
  pub few : n ≤ most_steps
  pub edges : length es ≤ most_edges
  pub formed : SheetGraph n least (members (graph es))

-- The edges of a sheet with their adjacency lists, and a working table without walks that has a row for each step.
pub record Tabulable (n : ℕ) (least : ℕ → ℕ) (es : List ℕ) (d : List (List ℤ)) : Type 0 where
  pub sheet : SheetEdges n least es
  pub rows : n ≤ length d
  pub empty : Empty d

-- Rows of bits, a number for each step, that hold nothing yet.
abbrev pub Blank : List ℕ → Type 0
Blank rows = rows ≡ replicate most_steps 0

-- Rows for what reaches what, maps for the waits, and numbers of columns, that hold nothing yet.
pub record Blanks (reach waits number : List ℕ) : Type 0 where
  pub rows : Blank reach
  pub maps : Blank waits
  pub numbers : Unnumbered number

-- Not 10: some start times keep every edge while each open step lasts its least.
abbrev pub feasible : ℕ → List Edge → Bool
feasible n g = stable g (rounds g n (source_row n 0))

-- The edges of an accepted sheet, with what reaches what and the waits.
pub record Plannable (n : ℕ) (least : ℕ → ℕ) (g : List Edge) (reach maps : List ℕ) : Type 0 where
  pub well : Well n (members g)
  pub serial : Serializable (members (serialized n least g))
  pub gains : Gains (members g) most_gain
  pub leasts : SheetLeasts least (members g)
  pub long : length reach ≡ most_steps
  pub reaches : Reaches n g reach
  pub waits : maps ≡ wait_maps n g

-- The edges of an accepted sheet, with a table, read by the numbers of its columns, and sets that hold their heaviest walks and anchor sets, the waits put in.
pub record Tabulated (n : ℕ) (least : ℕ → ℕ) (g : List Edge) (number : List ℕ) (d : List (List ℤ)) (sets : List ℕ) : Type 0 where
  pub well : Well n (members g)
  pub serial : Serializable (members (serialized n least g))
  pub rows : Rows n d
  pub holds : Holds n (serialized n least g) (read_by number d) sets

-- What is found of edges: the verdict with the waits, and on acceptance the table with its numbers, and the sets.
pub record Tabulates (n : ℕ) (least : ℕ → ℕ) (g : List Edge) (allow : Bool) (r : Found) (maps number : List ℕ) (d : List (List ℤ)) (sets : List ℕ) : Type 0 where
  pub listed : Listed n g (judge_edges n least g) allow r.verdict maps r.count
  pub held : is_given (verdict_of r.verdict) ≡ true → Tabulated n least g number d sets
