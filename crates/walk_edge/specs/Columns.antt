-- The columns of the working table are numbered: column k is that of an anchor. Read as a column, a cell is 0 where no walk comes, w + 1 for the weight w. Marks, a map of steps: bit v stands where row v may have been raised since step v last handed on.
use Rattle.std.specs.Prelude.{◌≡◌, Bool, true, false, List, ℕ, suc, ◌+◌, ◌≤◌, ◌<◌, ℤ, length, get_or}
use Rattle.definitions.specs.Basics.{test_bit}
use Rattle.definitions.specs.Limits.{most_gain}
use Rattle.definitions.specs.Links.{Edge, Graph}
use Rattle.definitions.specs.Rounds.{extend}
use Rattle.definitions.specs.Waits.{wait_edge}
use Rattle.walk_cells.specs.Cells.{value}
use Rattle.walk_cells.specs.Tables.{Held, Square, Target, cell_at}
use Rattle.walk_lift.specs.Lifts.{Ready}
use Rattle.theory.specs.Sweeps.{Settles, hand}

abbrev pub column : List (List ℤ) → ℕ → ℕ → ℕ
column d k v = value (cell_at d v k)

-- A column r below another one, t; r holds a walk wherever t does.
pub record Under (t r : ℕ → ℕ) : Type 0 where
  pub below : (v : ℕ) → r v ≤ t v
  pub live : (v : ℕ) → 1 ≤ t v → 1 ≤ r v

-- What step u hands on of x along its edges stays below t.
pub record Bounds (E : Graph) (u x : ℕ) (t : ℕ → ℕ) : Type 0 where
  pub ends : (e : Edge) → E e → e.from ≡ u → extend x e.gain e.loss ≤ t e.to

-- Edges of a graph on one column and its marks, some of them one or more times, where step u has x to hand on. No mark is taken away, and a step whose cell changes has one.
-- Below a column that bounds what is handed on no cell falls, nothing is raised above it, and each edge out of u has handed on.
pub record Handed (E : Graph) (u x : ℕ) (r s : ℕ → ℕ) (f g : ℕ → Bool) : Type 0 where
  pub up : (t : ℕ → ℕ) → Under t r → Bounds E u x t → (v : ℕ) → r v ≤ s v
  pub under : (t : ℕ → ℕ) → Under t r → Bounds E u x t → Under t s
  pub hands : (t : ℕ → ℕ) → Under t r → Bounds E u x t → (e : Edge) → E e → e.from ≡ u → extend x e.gain e.loss ≤ s e.to
  pub marks : (v : ℕ) → f v ≡ true → g v ≡ true
  pub marked : (v : ℕ) → g v ≡ false → s v ≡ r v

-- Numbers of columns: `number` says the column of a step, 64 or any number that is not below the width for one that has none; `anchor` says the step of a column.
pub record Numbers (width : ℕ) (number : List ℕ) (anchor : ℕ → ℕ) : Type 0 where
  pub there : (k : ℕ) → k < width → get_or number (anchor k) 0 ≡ k
  pub inside : (k : ℕ) → k < width → anchor k < 64
  pub back : (v : ℕ) → v < 64 → get_or number v 0 < width → anchor (get_or number v 0) ≡ v

-- The same for every numbered column, in the graph of its anchor: of column k step u hands on x k. No cell says more than what is handed on and one gain.
pub record HandedAll (E : ℕ → Graph) (number : List ℕ) (u : ℕ) (x : ℕ → ℕ) (d d' : List (List ℤ)) (m m' : ℕ) : Type 0 where
  pub square : Square (length d) d'
  pub each : (width : ℕ) (anchor : ℕ → ℕ) → Numbers width number anchor → (k : ℕ) → k < width → Handed (E (anchor k)) u (x k) (column d k) (column d' k) (test_bit m) (test_bit m')
  pub held : (w : ℕ) → ((k : ℕ) → x k ≤ suc w) → Held (w + most_gain) d → Held (w + most_gain) d'

-- An edge along which a row that is made ready can be handed on.
pub record Sendable (e : Edge) (width top : ℕ) (row : List ℤ) (d : List (List ℤ)) : Type 0 where
  pub target : Target e.to width d
  pub ready : Ready row width top
  pub light : e.gain ≤ most_gain

-- The graph of one edge, and that of the waits for u, bit i of a map: each gains the least of u.
abbrev pub Only : Edge → Graph
Only e x = x ≡ e

pub record WaitsFor (least u m : ℕ) (e : Edge) : Type 0 where
  pub target : ℕ
  pub waits : test_bit m target ≡ true
  pub same : e ≡ wait_edge (λ a. least) (record { anchor = u; target = target })

-- Steps without a mark have handed on all that they have.
abbrev pub Covered : Graph → (ℕ → ℕ) → (ℕ → Bool) → Type 0
Covered E r f = (e : Edge) → E e → f e.from ≡ false → hand r e ≤ r e.to

-- A column below the one that is sought, in which every edge has handed on.
pub record Sought (E : Graph) (t r : ℕ → ℕ) : Type 0 where
  pub settles : Settles E t
  pub under : Under t r

-- Steps hand on, one after another, all that they have not handed on yet: those of On at least once. All is said below a column that is sought.
pub record Swept (E : Graph) (On : ℕ → Type 0) (r s : ℕ → ℕ) (f g : ℕ → Bool) : Type 0 where
  pub up : (t : ℕ → ℕ) → Sought E t r → (v : ℕ) → r v ≤ s v
  pub under : (t : ℕ → ℕ) → Sought E t r → Sought E t s
  pub covers : (t : ℕ → ℕ) → Sought E t r → Covered E r f → Covered E s g
  pub hands : (t : ℕ → ℕ) → Sought E t r → Covered E r f → (e : Edge) → E e → On e.from → hand r e ≤ s e.to
