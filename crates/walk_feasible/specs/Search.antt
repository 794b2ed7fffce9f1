-- A search on one row of cells. Bit v of a map of marks stands where the cell of step v was raised since v last handed on.
use Rattle.std.specs.Prelude.{◌≡◌, Bool, true, false, ◌⊎◌, List, ℕ, ◌+◌, ◌-◌, ◌*◌, ◌<◌, ◌≤◌, ℤ, pos, length, get_or}
use Rattle.definitions.specs.Basics.{test_bit}
use Rattle.definitions.specs.Limits.{most_gain, most_steps}
use Rattle.definitions.specs.Links.{Edge, Graph, Walk}
use Rattle.definitions.specs.Rounds.{rounds, source_row, stable}
use Rattle.data_edges.specs.Words.{graph, unpack}
use Rattle.walk_cells.specs.Cells.{ground, height, most_weight}

-- A cell of this row is the weight of a walk, in a signed number of 32 bits. Every cell begins at 0, and none falls. The level of step v is the height of its cell: the ground where the weight is 0.
abbrev pub level : List ℤ → ℕ → ℕ
level row v = height (get_or row v (pos 0))

-- The level of the largest weight from which a cell is moved.
abbrev pub most_level : ℕ
most_level = ground + most_weight

-- The level of v is what an edge out of u makes of the level own.
pub record Came (E : Graph) (u own : ℕ) (s : ℕ → ℕ) (v : ℕ) : Type 0 where
  pub edge : Edge
  pub mem : E edge
  pub leaves : edge.from ≡ u
  pub ends : edge.to ≡ v
  pub weighs : s v + edge.loss ≡ own + edge.gain

-- A mark that is new stands where a cell grew.
abbrev pub Grows : (ℕ → ℕ) → (ℕ → ℕ) → (ℕ → Bool) → (ℕ → Bool) → Type 0
Grows r s f g = (v : ℕ) → g v ≡ true → f v ≡ false → r v < s v

-- Edges out of u, whose level was own, on a row and its marks; each has handed on. No mark is taken away, and a cell that is raised gets one.
pub record HandedOut (E : Graph) (u own : ℕ) (r s : ℕ → ℕ) (f g : ℕ → Bool) : Type 0 where
  pub up : (v : ℕ) → r v ≤ s v
  pub hands : (e : Edge) → E e → e.from ≡ u → own + e.gain ≤ s e.to + e.loss
  pub came : (v : ℕ) → (s v ≡ r v) ⊎ Came E u own s v
  pub marks : (v : ℕ) → f v ≡ true → g v ≡ true
  pub marked : (v : ℕ) → g v ≡ false → s v ≡ r v
  pub grows : Grows r s f g

-- The same on a row of 64 cells. Of the edges noted on the way only that they are in an array of 64 is said.
pub record Pushed (E : Graph) (u own : ℕ) (row row' : List ℤ) (via' : List ℕ) (m m' : ℕ) : Type 0 where
  pub long : length row' ≡ 64
  pub noted : length via' ≡ 64
  pub handed : HandedOut E u own (level row) (level row') (test_bit m) (test_bit m')

-- Some walk to v weighs what its cell says, or more.
pub record Attained (E : Graph) (r : ℕ → ℕ) (v : ℕ) : Type 0 where
  pub x : ℕ
  pub k : ℕ
  pub p : ℕ
  pub q : ℕ
  pub walk : Walk E x v k p q
  pub weighs : r v + q ≤ ground + p

-- Steps without a mark have handed on all that they have.
abbrev pub Covered : Graph → (ℕ → ℕ) → (ℕ → Bool) → Type 0
Covered E r f = (e : Edge) → E e → f e.from ≡ false → r e.from + e.gain ≤ r e.to + e.loss

-- At most c visits, one after another, in which steps hand on: those of On at least once. A step without a mark has handed on all; a step of On has one after that only where its cell grew.
pub record Pass (E : Graph) (On : ℕ → Type 0) (c : ℕ) (r s : ℕ → ℕ) (f g : ℕ → Bool) : Type 0 where
  pub up : (v : ℕ) → r v ≤ s v
  pub attained : ((v : ℕ) → Attained E r v) → (v : ℕ) → Attained E s v
  pub small : (b : ℕ) → ((v : ℕ) → r v ≤ b) → (v : ℕ) → s v ≤ b + most_gain * c
  pub covers : Covered E r f → Covered E s g
  pub hands : Covered E r f → (e : Edge) → E e → On e.from → r e.from + e.gain ≤ s e.to + e.loss
  pub grows : Grows r s f g
  pub clears : (v : ℕ) → On v → g v ≡ true → r v < s v

-- The same on a row of 64 cells.
pub record Passed (E : Graph) (On : ℕ → Type 0) (c : ℕ) (row row' : List ℤ) (via' : List ℕ) (m m' : ℕ) : Type 0 where
  pub long : length row' ≡ 64
  pub noted : length via' ≡ 64
  pub pass : Pass E On c (level row) (level row') (test_bit m) (test_bit m')

-- A row on which c more visits reach no number that is too large.
pub record Room (c : ℕ) (row : List ℤ) : Type 0 where
  pub long : length row ≡ 64
  pub least : (v : ℕ) → ground ≤ level row v
  pub below : (v : ℕ) → level row v + most_gain * c ≤ most_level

-- Rounds over the edges come to rest: 10 does not apply.
abbrev pub rests : ℕ → List ℕ → Bool
rests n es = stable (graph es) (rounds (graph es) n (source_row n 0))

-- The visits of one pass: in the order, and back.
abbrev pub pass_visits : ℕ
pass_visits = most_steps + most_steps

-- k is one more than the index of an edge that enters v.
pub record Enters (es : List ℕ) (k v : ℕ) : Type 0 where
  pub some : 1 ≤ k
  pub inside : k ≤ length es
  pub ends : (unpack (get_or es (k - 1) 0)).to ≡ v

-- A closed walk that weighs more than 0.
pub record Circle (E : Graph) : Type 0 where
  pub x : ℕ
  pub k : ℕ
  pub p : ℕ
  pub q : ℕ
  pub walk : Walk E x x k p q
  pub above : q < p
