-- Numbers of columns, and what a column begins with: at the members of its anchor's column of sets a walk that weighs the anchor's least,
-- and the weight of each counted edge out of the anchor that gains.
use Rattle.std.specs.Prelude.{◌≡◌, true, ◌⊎◌, ◌≢◌, List, ℕ, suc, ◌-◌, ◌%◌, ◌≤◌, ◌<◌, max, ℤ, length, get_or}
use Rattle.definitions.specs.Basics.{test_bit}
use Rattle.definitions.specs.Limits.{most_gain, most_steps}
use Rattle.definitions.specs.Links.{Edge, Graph}
use Rattle.data_edges.specs.Words.{EndsBelow, Light, unpack}
use Rattle.data_relations.specs.Rows.{row_bit}
use Rattle.walk_cells.specs.Cells.{none, value}
use Rattle.walk_cells.specs.Tables.{Held, Square, cell_at}
use Rattle.walk_edge.specs.Columns.{Numbers, column}
use Rattle.theory.specs.Sweeps.{Leads}

-- No step has a number, and no cell a walk.
pub record Blank (number : List ℕ) : Type 0 where
  pub long : length number ≡ 64
  pub none : (v : ℕ) → v < 64 → get_or number v 0 ≡ 64

pub record Empty (d : List (List ℤ)) : Type 0 where
  pub square : Square (length d) d
  pub cells : (v k : ℕ) → cell_at d v k ≡ none

-- Nothing of what is sown is there yet: an empty table with a row for each step below n and each end, and no numbers.
pub record Seedable (n : ℕ) (es number : List ℕ) (d : List (List ℤ)) : Type 0 where
  pub few : n ≤ most_steps
  pub inside : n ≤ length d
  pub ends : EndsBelow es (length d)
  pub light : Light es
  pub bare : Empty d
  pub blank : Blank number

-- An edge of a sheet to a step that the table has a row for; all edges of a list; and one that is counted.
pub record Placed (e : Edge) (d : List (List ℤ)) : Type 0 where
  pub row : e.to < length d
  pub square : Square (length d) d
  pub light : e.gain ≤ most_gain

pub record AllPlaced (es : List ℕ) (d : List (List ℤ)) : Type 0 where
  pub ends : EndsBelow es (length d)
  pub square : Square (length d) d
  pub light : Light es

pub record Leading (e : Edge) (d : List (List ℤ)) : Type 0 where
  pub placed : Placed e d
  pub counts : e.counted ≡ true

-- The members of a map have numbers below the width, none above itself, and no other step has.
pub record Numbered (all width : ℕ) (number : List ℕ) : Type 0 where
  pub anchor : ℕ → ℕ
  pub numbers : Numbers width number anchor
  pub few : width ≤ 64
  pub listed : (a : ℕ) → test_bit all a ≡ true → get_or number a 0 < width
  pub low : (a : ℕ) → a < 64 → test_bit all a ≡ true → get_or number a 0 ≤ a

-- One cell of a table becomes c where that says more; the others stay.
pub record Raised (v k : ℕ) (c : ℤ) (d d' : List (List ℤ)) : Type 0 where
  pub square : Square (length d) d'
  pub here : value (cell_at d' v k) ≡ max (value (cell_at d v k)) (value c)
  pub other : (w j : ℕ) → (w ≢ v) ⊎ (j ≢ k) → cell_at d' w j ≡ cell_at d w j

-- The cell of step v in column k says a walk that weighs the least of an anchor: one that has the column and is a pair with v, by P.
pub record Sown (least : ℕ → ℕ) (number : List ℕ) (P : ℕ → ℕ → Type 0) (d : List (List ℤ)) (v k : ℕ) : Type 0 where
  pub anchor : ℕ
  pub pair : P v anchor
  pub here : get_or number anchor 0 % 64 ≡ k
  pub weighs : value (cell_at d v k) ≡ suc (least anchor)

-- Such walks come into the cells of the pairs P of a step and an anchor, and nothing into another. They weigh no more than an edge may gain.
pub record Seeded (least : ℕ → ℕ) (number : List ℕ) (P : ℕ → ℕ → Type 0) (d d' : List (List ℤ)) : Type 0 where
  pub square : Square (length d) d'
  pub sown : (v a : ℕ) → P v a → Sown least number P d' v (get_or number a 0 % 64)
  pub either : (v k : ℕ) → Sown least number P d' v k ⊎ (cell_at d' v k ≡ cell_at d v k)
  pub held : Held most_gain d → Held most_gain d'

-- No counted edge of the first k words gains.
abbrev pub Idle : List ℕ → ℕ → Type 0
Idle es k = (j : ℕ) → j < k → (unpack (get_or es j 0)).counted ≡ true → (unpack (get_or es j 0)).gain ≡ 0

-- The column of a has, where it has walks at all, what the edges of a graph begin its walks with, and no more.
pub record Begun (E : Graph) (a : ℕ) (r s : ℕ → ℕ) : Type 0 where
  pub up : (v : ℕ) → r v ≤ s v
  pub begun : (e : Edge) → E e → Leads a e → 1 ≤ r e.to → suc (e.gain - e.loss) ≤ s e.to
  pub sound : (t : ℕ → ℕ) → ((e : Edge) → E e → Leads a e → suc (e.gain - e.loss) ≤ t e.to) → ((v : ℕ) → r v ≤ t v) → (v : ℕ) → s v ≤ t v

pub record BegunAll (E : Graph) (number : List ℕ) (d d' : List (List ℤ)) : Type 0 where
  pub square : Square (length d) d'
  pub each : (width : ℕ) (anchor : ℕ → ℕ) → Numbers width number anchor → width ≤ 64 → (k : ℕ) → k < width → Begun E (anchor k) (column d k) (column d' k)
  pub held : Held most_gain d → Held most_gain d'

-- What the column s of anchor a begins with.
pub record Begins (least : ℕ → ℕ) (E : Graph) (sets : List ℕ) (n a : ℕ) (s : ℕ → ℕ) : Type 0 where
  pub live : (v : ℕ) → v < n → row_bit sets v a ≡ true → suc (least a) ≤ s v
  pub begun : (e : Edge) → E e → Leads a e → e.to < n → row_bit sets e.to a ≡ true → suc (e.gain - e.loss) ≤ s e.to
  pub sound : (t : ℕ → ℕ) → ((e : Edge) → E e → Leads a e → suc (e.gain - e.loss) ≤ t e.to) → ((v : ℕ) → v < n → row_bit sets v a ≡ true → suc (least a) ≤ t v) → (v : ℕ) → s v ≤ t v

-- A table of so many rows whose columns are numbered and begun.
pub record Prepared (least : ℕ → ℕ) (E : Graph) (sets : List ℕ) (n width : ℕ) (number : List ℕ) (rows : ℕ) (d : List (List ℤ)) : Type 0 where
  pub anchor : ℕ → ℕ
  pub numbers : Numbers width number anchor
  pub few : width ≤ 64
  pub listed : (v a : ℕ) → v < n → row_bit sets v a ≡ true → get_or number a 0 < width
  pub low : (v a : ℕ) → v < n → a < 64 → row_bit sets v a ≡ true → get_or number a 0 ≤ a
  pub square : Square rows d
  pub held : Held most_gain d
  pub columns : (k : ℕ) → k < width → Begins least E sets n (anchor k) (column d k)
