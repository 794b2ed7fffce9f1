-- Relations on constraint graphs that the theorems speak of. A graph is a predicate on edges; a list of edges is one, and so is a rival's graph of any size.
use Rattle.std.specs.Prelude.{◌≡◌, cond, false, true, ◌≢◌, ◌⊎◌, ◌+◌, ◌<◌, ◌≤◌, suc, zero, ℕ, eqb}
use Rattle.definitions.specs.Anchors.{InAnchorSet, WellPosed}
use Rattle.definitions.specs.Limits.{most_gain, most_ticks}
use Rattle.definitions.specs.Links.{After, Edge, Forward, Graph, Joined, UsableFrom, Walk, ◌⊑◌, no_leasts}
use Rattle.definitions.specs.Plan.{Offset}
use Rattle.definitions.specs.Waits.{Wait}

-- Start times t keep an edge under the delays d: those of the theory are what steps last past their leasts, which the edges hold (request L6). This is `Keeps` of a link, read off its edge.
abbrev pub KeepsEdge : (ℕ → ℕ) → (ℕ → ℕ) → Edge → Type 0
KeepsEdge d t e = t e.from + e.gain + cond e.counted (d e.from) 0 ≤ t e.to + e.loss + cond e.late (d e.to) 0

-- Start times that keep every edge.
pub record Schedule (E : Graph) (d t : ℕ → ℕ) : Type 0 where
  pub starts : t 0 ≡ 0
  pub keeps : (e : Edge) → E e → KeepsEdge d t e

-- What the graph of every sheet of n steps has.
pub record Shape (n : ℕ) (E : Graph) : Type 0 where
  pub from_below : (e : Edge) → E e → e.from < n
  pub to_below : (e : Edge) → E e → e.to < n
  pub back_uncounted : (e : Edge) → E e → e.back ≡ true → e.counted ≡ false
  pub forward_lossless : (e : Edge) → E e → e.back ≡ false → e.loss ≡ 0
  pub forward_timely : (e : Edge) → E e → e.back ≡ false → e.late ≡ false
  pub late_not_source : (e : Edge) → E e → e.late ≡ true → e.to ≢ 0

-- A forward edge leads into v; and into every step other than 0, as in the graph of every completed sheet (request L3).
pub record Entry (E : Graph) (v : ℕ) : Type 0 where
  pub edge : Edge
  pub mem : E edge
  pub forward : edge.back ≡ false
  pub enters : edge.to ≡ v

abbrev pub Entered : ℕ → Graph → Type 0
Entered n E = (v : ℕ) → v < n → v ≢ 0 → Entry E v

-- Every step has a forward chain from step 0. Where forward edges close no circle it follows from `Entered`.
abbrev pub Rooted : ℕ → Graph → Type 0
Rooted n E = (v : ℕ) → v < n → Joined (Forward E) 0 v

-- Forward edges close no circle: not refusal 8.
abbrev pub ForwardAcyclic : Graph → Type 0
ForwardAcyclic E = (x k p q : ℕ) → ¬ Walk (Forward E) x x (suc k) p q

-- No walk that begins with a counted edge out of an open step comes back to it.
abbrev pub Acyclic : Graph → Type 0
Acyclic E = (a : ℕ) → ¬ After E a a

-- No step waits for its own end: not refusal 11.
abbrev pub Consistent : Graph → Type 0
Consistent E = (a : ℕ) → ¬ After (UsableFrom E a) a a

-- No return counts from a finish: a sheet without request L11's links on open steps other than step 0.
abbrev pub Timely : Graph → Type 0
Timely E = (e : Edge) → E e → e.late ≡ false

-- Returns hand the membership of a on.
abbrev pub Carries : Graph → ℕ → Type 0
Carries E a = (e : Edge) → E e → e.back ≡ true → InAnchorSet E a e.from → InAnchorSet E a e.to

-- No closed walk weighs more than 0: not refusal 10.
pub record NonPositive (E : Graph) : Type 0 where
  pub closed : {x k p q : ℕ} → Walk E x x k p q → p ≤ q

-- No edge gains more than g.
abbrev pub Gains : Graph → ℕ → Type 0
Gains E g = (e : Edge) → E e → e.gain ≤ g

-- A counted edge gains at least the least of the step that it leaves.
abbrev pub Leasts : (ℕ → ℕ) → Graph → Type 0
Leasts least E = (e : Edge) → E e → e.counted ≡ true → least e.from ≤ e.gain

-- No edge that a walk from step 0, or from the end of an open step, begins with gains more than g, the least not counted.
abbrev pub FirstGains : (ℕ → ℕ) → Graph → ℕ → Type 0
FirstGains least E g = (e : Edge) → E e → (e.from ≡ 0) ⊎ (e.counted ≡ true) → e.gain ≤ least e.from + g

-- The leasts of a sheet with the edges E: step 0 has none, and each is a number of two bytes.
pub record SheetLeasts (least : ℕ → ℕ) (E : Graph) : Type 0 where
  pub source : least 0 ≡ 0
  pub small : (a : ℕ) → least a ≤ most_ticks
  pub leasts : Leasts least E

-- No edge loses more than l.
abbrev pub Losses : Graph → ℕ → Type 0
Losses E l = (e : Edge) → E e → e.loss ≤ l

-- What the kernels ask of the graph of a sheet of n steps and its leasts.
pub record SheetGraph (n : ℕ) (least : ℕ → ℕ) (E : Graph) : Type 0 where
  pub shape : Shape n E
  pub entered : Entered n E
  pub gains : Gains E most_gain
  pub leasts : SheetLeasts least E

-- A graph that can be scheduled for every list of delays: not refused 10 or 11.
pub record Well (n : ℕ) (E : Graph) : Type 0 where
  pub some : 0 < n
  pub shape : Shape n E
  pub rooted : Rooted n E
  pub consistent : Consistent E
  pub never : NonPositive E

-- What a plan with leasts asks of its graph: it can be scheduled and is well-posed, its counted edges gain the leasts of their steps, and step 0 has none.
pub record Lasting (n : ℕ) (least : ℕ → ℕ) (E : Graph) : Type 0 where
  pub well : Well n E
  pub posed : WellPosed E
  pub leasts : Leasts least E
  pub source : least 0 ≡ 0

-- The waits can be put in, and E' is the graph with them: not refusal 28.
pub record Serializable (E' : Graph) : Type 0 where
  pub acyclic : ForwardAcyclic E'
  pub never : NonPositive E'

-- The serialization edge of a wait: it gains the least of its anchor.
pub record WaitEdge (least : ℕ → ℕ) (E : Graph) (e : Edge) : Type 0 where
  pub counts : e.counted ≡ true
  pub forward : e.back ≡ false
  pub gains : e.gain ≡ least e.from
  pub lossless : e.loss ≡ 0
  pub timely : e.late ≡ false
  pub wait : Wait E e.from e.to

-- E' has the edges of E and a serialization edge for each wait of E, and no others.
pub record Waited (least : ℕ → ℕ) (E E' : Graph) : Type 0 where
  pub keeps_all : E ⊑ E'
  pub adds : (e : Edge) → WaitEdge least E e → E' e
  pub only : (e : Edge) → E' e → E e ⊎ WaitEdge least E e

-- S v is one of the terms of v's anchor set.
pub record Attained (E : Graph) (d S : ℕ → ℕ) (off : ℕ → ℕ → ℕ) (v : ℕ) : Type 0 where
  pub anchor : ℕ
  pub inside : InAnchorSet E anchor v
  pub equals : S v ≡ S anchor + d anchor + off anchor v

-- S is the relative schedule of E under the delays d: S v is the largest of the terms of v's anchor set, an upper bound of them all and one of them. The offsets for a are taken over the edges that
-- walks from the end of a may use.
pub record Relative (n : ℕ) (E : Graph) (d S : ℕ → ℕ) (off : ℕ → ℕ → ℕ) : Type 0 where
  pub starts : S 0 ≡ 0
  pub no_wait : d 0 ≡ 0
  pub offsets : (a v : ℕ) → v < n → InAnchorSet E a v → Offset no_leasts (UsableFrom E a) a v (off a v)
  pub above : (a v : ℕ) → v < n → InAnchorSet E a v → S a + d a + off a v ≤ S v
  pub attained : (v : ℕ) → v < n → Attained E d S off v

-- The member b makes the member a needless in the anchor set of v; and a decides v, where none does. Off stands for the offsets.
pub record Overrides (E : Graph) (off : ℕ → ℕ → ℕ) (a v b : ℕ) : Type 0 where
  pub other : b ≢ a
  pub inside : InAnchorSet E b v
  pub behind : InAnchorSet E a b
  pub heavy : off a v ≤ off a b + off b v

pub record Decides (E : Graph) (off : ℕ → ℕ → ℕ) (a v : ℕ) : Type 0 where
  pub inside : InAnchorSet E a v
  pub alone : (b : ℕ) → ¬ Overrides E off a v b

-- The delays in which a alone lasts, for x. The source lasts 0.
unfoldable pub sole_delay : ℕ → ℕ → ℕ → ℕ
sole_delay x zero v = 0
sole_delay x (suc a) v = cond (eqb v (suc a)) x 0
