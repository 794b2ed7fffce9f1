-- Anchors handed on along the edges, as maps of bits: bit a of row v comes to stand where a walk from the end of a reaches v. Such a walk takes no late return into a.
-- Bit v of a map of marks stands where step v may have something that it has not handed on.
use Rattle.std.specs.Prelude.{◌≡◌, Bool, true, false, not, ◌&&◌, ◌||◌, List, ◌⊎◌, ◌≢◌, ℕ, eqb, ltb, get_or, length}
use Rattle.definitions.specs.Basics.{test_bit}
use Rattle.definitions.specs.Links.{Edge, Forward, Graph, LateInto, UsableFrom, members, usable}
use Rattle.definitions.specs.Rounds.{after_reaches}
use Rattle.theory.specs.Graphs.{Shape}
use Rattle.theory.specs.Sweeps.{Leads}

-- The rows are read by columns: the column of anchor a has its bit of each step.
abbrev pub column : List ℕ → ℕ → ℕ → Bool
column rows a v = test_bit (get_or rows v 0) a

-- What stands in one column, or map, stands in the other.
abbrev pub Within : (ℕ → Bool) → (ℕ → Bool) → Type 0
Within r s = (v : ℕ) → r v ≡ true → s v ≡ true

-- An edge has something for the column of a: its start is in the column, or it begins the walks of a.
abbrev pub Gives : ℕ → (ℕ → Bool) → Edge → Type 0
Gives a r e = (r e.from ≡ true) ⊎ Leads a e

-- Every edge has handed on; and those have that leave a step without a mark.
abbrev pub Settled : ℕ → Graph → (ℕ → Bool) → Type 0
Settled a E r = (e : Edge) → E e → Gives a r e → r e.to ≡ true

abbrev pub Covered : ℕ → Graph → (ℕ → Bool) → (ℕ → Bool) → Type 0
Covered a E r f = (e : Edge) → E e → f e.from ≡ false → Gives a r e → r e.to ≡ true

-- The anchors in h came into row v. No mark is taken away, and a row that grows gets one.
pub record Joined (v h : ℕ) (rows rows' : List ℕ) (k k' : ℕ) : Type 0 where
  pub long : length rows' ≡ 64
  pub here : (a : ℕ) → column rows' a v ≡ (column rows a v || test_bit h a)
  pub other : (a u : ℕ) → u ≢ v → column rows' a u ≡ column rows a u
  pub marks : Within (test_bit k) (test_bit k')
  pub marked : (a u : ℕ) → test_bit k' u ≡ false → column rows' a u ≡ column rows a u

-- Edges of a graph on one column and its marks, some of them one or more times. Each edge out of u has handed on, from a start where `held` stands. Nothing goes beyond a column in which every edge has handed on. No
-- mark is taken away, and a step that comes into the column gets one.
pub record Handed (a : ℕ) (E : Graph) (u : ℕ) (held : Bool) (r s f g : ℕ → Bool) : Type 0 where
  pub up : Within r s
  pub hands : (e : Edge) → E e → e.from ≡ u → (held ≡ true) ⊎ Leads a e → s e.to ≡ true
  pub sound : (t : ℕ → Bool) → Settled a E t → (held ≡ true → t u ≡ true) → Within r t → Within s t
  pub marks : Within f g
  pub marked : (v : ℕ) → g v ≡ false → s v ≡ r v

-- The same for every anchor, in its own graph; u hands on the anchors in m.
pub record HandedAll (E : ℕ → Graph) (u m : ℕ) (rows rows' : List ℕ) (k k' : ℕ) : Type 0 where
  pub long : length rows' ≡ 64
  pub each : (a : ℕ) → Handed a (E a) u (test_bit m a) (column rows a) (column rows' a) (test_bit k) (test_bit k')

-- The anchors that the counted edges of u hand on: those in m, and u itself. Step 0 is no anchor here: its delay counts as 0.
abbrev pub Begun : ℕ → ℕ → ℕ → Type 0
Begun u m all = (a : ℕ) → test_bit all a ≡ (test_bit m a || (not (eqb u 0) && eqb a u))

-- Steps hand on, one after another: those of On at least once, unless they have no mark. A step without a mark has then handed on all that it has.
pub record Carried (a : ℕ) (E : Graph) (On : ℕ → Type 0) (r s f g : ℕ → Bool) : Type 0 where
  pub up : Within r s
  pub sound : (t : ℕ → Bool) → Settled a E t → Within r t → Within s t
  pub covers : Covered a E r f → Covered a E s g
  pub hands : Covered a E r f → (e : Edge) → E e → On e.from → Gives a r e → s e.to ≡ true

pub record CarriedAll (E : ℕ → Graph) (On : ℕ → Type 0) (rows rows' : List ℕ) (k k' : ℕ) : Type 0 where
  pub long : length rows' ≡ 64
  pub each : (a : ℕ) → Carried a (E a) On (column rows a) (column rows' a) (test_bit k) (test_bit k')

-- The rows are the anchor sets of n steps without step 0: its delay counts as 0, so it is no anchor here.
pub record Stripped (sets : List ℕ) (n : ℕ) (rows : List ℕ) : Type 0 where
  pub long : length rows ≡ 64
  pub bits : (a v : ℕ) → column rows a v ≡ (ltb v n && (column sets a v && not (eqb a 0)))

-- The returns that walks from the end of a may use; no return is counted on a sheet.
abbrev pub HomeFrom : ℕ → Edge → Type 0
HomeFrom a e = (e.back ≡ true) × (¬ LateInto e a)

abbrev pub Uncounted : Graph → Type 0
Uncounted E = (e : Edge) → E e → e.back ≡ true → e.counted ≡ false

-- A row in which something is new has a mark.
abbrev pub Marked : List ℕ → List ℕ → ℕ → Type 0
Marked rows rows' k = (a v : ℕ) → test_bit k v ≡ false → column rows' a v ≡ column rows a v

-- One edge handed on what its start has, where it is a return.
pub record Returned (x : Edge) (rows rows' : List ℕ) (k k' : ℕ) : Type 0 where
  pub long : length rows' ≡ 64
  pub marks : Within (test_bit k) (test_bit k')
  pub marked : Marked rows rows' k'
  pub hands : Uncounted (λ e. e ≡ x) → HandedAll (λ a e. (e ≡ x) × HomeFrom a e) x.from (get_or rows x.from 0) rows rows' k k'

-- Every return handed on, on one column. Where the forward edges had handed on before, every edge has that leaves a step without a mark.
pub record Homed (a : ℕ) (E : Graph) (r s g : ℕ → Bool) : Type 0 where
  pub sound : (t : ℕ → Bool) → Settled a E t → Within r t → Within s t
  pub covers : Settled a (Forward E) r → Covered a E s g

pub record HomedAll (E : Graph) (rows rows' : List ℕ) (k : ℕ) : Type 0 where
  pub long : length rows' ≡ 64
  pub marked : Marked rows rows' k
  pub each : Uncounted E → (a : ℕ) → Homed a (UsableFrom E a) (column rows a) (column rows' a) (test_bit k)

-- What `reach` gives. On the edges of a sheet of n steps, bit a of row v says whether a walk that begins with a counted edge out of a reaches v over the edges that it may use.
pub record Reached (n : ℕ) (es : List Edge) (r : List ℕ) : Type 0 where
  pub long : length r ≡ 64
  pub reaches : Shape n (members es) → (a v : ℕ) → column r a v ≡ after_reaches n (usable es a) a v
