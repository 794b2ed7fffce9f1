-- Whether an edge has handed on in the source's column of a table of walks, by what its cells say: 0 where no walk comes, w + 1 for the weight w.
use Rattle.std.specs.Prelude.{Bool, not, ◌||◌, List, ℕ, ◌<◌, leb, ℤ}
use Rattle.definitions.specs.Basics.{all_below, test_bit}
use Rattle.definitions.specs.Links.{Edge}
use Rattle.definitions.specs.Rounds.{entry, extend}
use Rattle.definitions.specs.Waits.{wait_edge}
use Rattle.walk_cells.specs.Cells.{move_limit}
use Rattle.walk_cells.specs.Tables.{Square}

abbrev pub source_column : List (List ℕ) → ℕ → ℕ
source_column d v = entry d v 0

-- What an edge hands on.
abbrev pub hand : (ℕ → ℕ) → Edge → ℕ
hand r e = extend (r e.from) e.gain e.loss

-- An edge has handed on, in the source's column.
abbrev pub handed_on : List (List ℕ) → Edge → Bool
handed_on d e = leb (hand (source_column d) e) (source_column d e.to)

-- Every wait of step i has, where bit a of its map stands for a wait for a.
abbrev pub waits_handed_on : List (List ℕ) → (ℕ → ℕ) → ℕ → ℕ → Bool
waits_handed_on d least map i = all_below (λ a. not (test_bit map a) || handed_on d (wait_edge least (record { anchor = a; target = i }))) 64

-- The fields of an edge, over a table that has rows for all steps.
pub record Fields (from to gain loss : ℕ) (d : List (List ℤ)) : Type 0 where
  pub start : from < 64
  pub end : to < 64
  pub gains : gain < move_limit
  pub loses : loss < move_limit
  pub square : Square 64 d
