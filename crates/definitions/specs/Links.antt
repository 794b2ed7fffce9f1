-- "What links mean": links, the start times that keep them, the edges that they are, and walks.
use Rattle.std.specs.Prelude.{◌≡◌, Bool, true, false, not, ◌&&◌, ◌≢◌, ℕ, zero, suc, ◌+◌, ◌≤◌, eqb, length, get_or, None, Option, Some}
use mathlib.Core.List.{List, [], ◌∷◌, ◌++◌, Memᴰ, map, flat_map}
use Rattle.definitions.specs.Basics.{any, without, select_below}
use Rattle.definitions.specs.Bytes.{Records, blank_operation}
use Rattle.definitions.specs.declared.Delay.{Delay}
use Rattle.definitions.specs.declared.Delay.TheVariants.{Open, Fixed}
use Rattle.definitions.specs.declared.Operation.{Operation}
use Rattle.definitions.specs.declared.Link.{Link}

-- A link on a pair (i, j): after, with a gap g (request L1), at least m, at most u, and at most u from the finish (request L11).
pub data Constraint : Type 0 where
  sequencing : ℕ → ℕ → ℕ → Constraint
  minimum : ℕ → ℕ → ℕ → Constraint
  maximum : ℕ → ℕ → ℕ → Constraint
  finish_maximum : ℕ → ℕ → ℕ → Constraint

-- A link record holds up to four links on its pair; a sheet holds those of its records. A list of any length stands for a sheet past the limits, as the rival's may be.
unfoldable pub sequencing_of : ℕ → ℕ → Bool → ℕ → List Constraint
sequencing_of i j true g = sequencing i j g ∷ []
sequencing_of i j false g = []

unfoldable pub minimum_of : ℕ → ℕ → Option ℕ → List Constraint
minimum_of i j (Some m) = minimum i j m ∷ []
minimum_of i j None = []

unfoldable pub maximum_of : ℕ → ℕ → Option ℕ → List Constraint
maximum_of i j (Some u) = maximum i j u ∷ []
maximum_of i j None = []

unfoldable pub finish_maximum_of : ℕ → ℕ → Option ℕ → List Constraint
finish_maximum_of i j (Some u) = finish_maximum i j u ∷ []
finish_maximum_of i j None = []

-- The ticks of a field, the gap of an after link or a least duration: 0 where none is said.
unfoldable pub ticks_said : Option ℕ → ℕ
ticks_said (Some g) = g
ticks_said None = 0

-- The links of a record, and of all records of a sheet.
unfoldable pub link_constraints : Link → List Constraint
link_constraints l = sequencing_of l.from l.to l.sequencing (ticks_said l.gap) ++ minimum_of l.from l.to l.minimum ++ maximum_of l.from l.to l.maximum ++ finish_maximum_of l.from l.to l.latest

unfoldable pub constraints : List Link → List Constraint
constraints ls = flat_map link_constraints ls

-- Request L3. A forward link, after or at least, leads into v; a return does not.
unfoldable pub leads_into : ℕ → Constraint → Bool
leads_into v (sequencing i j g) = eqb j v
leads_into v (minimum i j m) = eqb j v
leads_into v (maximum i j u) = false
leads_into v (finish_maximum i j u) = false

-- "A step other than 0 with no forward link into it has an after link from 0".
unfoldable pub follows_nothing : List Constraint → ℕ → Bool
follows_nothing cs v = not (eqb v 0) && not (any (leads_into v) cs)

abbrev pub source_link : ℕ → Constraint
source_link v = sequencing 0 v 0

unfoldable pub loose_steps : ℕ → List Constraint → List ℕ
loose_steps n cs = select_below (follows_nothing cs) n

unfoldable pub completed : ℕ → List Constraint → List Constraint
completed n cs = cs ++ map source_link (loose_steps n cs)

-- The links of a sheet: those of its records, so completed. All that is said of a sheet below is said of these.
unfoldable pub links_of : Records → List Constraint
links_of q = completed (length q.steps) (constraints q.pairs)

-- The duration of a step, under delays d of the open steps without a largest one. The duration of step 0 counts as 0.
unfoldable pub delay_at : List Operation → ℕ → Delay
delay_at os i = (get_or os i blank_operation).delay

-- Whether a step is open.
unfoldable pub is_open : Delay → Bool
is_open Open = true
is_open (Fixed ticks) = false

unfoldable pub duration_with : (ℕ → ℕ) → ℕ → Delay → ℕ
duration_with d i (Fixed ticks) = ticks
duration_with d zero Open = 0
duration_with d (suc i) Open = d (suc i)

unfoldable pub duration : List Operation → (ℕ → ℕ) → ℕ → ℕ
duration os d i = duration_with d i (delay_at os i)

-- The least duration of a step (request L6). Only an open step other than 0 has one.
unfoldable pub least_with : ℕ → Delay → Option ℕ → ℕ
least_with i (Fixed ticks) said = 0
least_with zero Open said = 0
least_with (suc i) Open said = ticks_said said

unfoldable pub least_at : List Operation → ℕ → ℕ
least_at os i = least_with i (delay_at os i) (get_or os i blank_operation).least

-- Durations that respect the leasts: none is below that of its step.
abbrev pub Respects : List Operation → (ℕ → ℕ) → Type 0
Respects os d = (i : ℕ) → least_at os i ≤ d i

-- Leasts of 0: those of a sheet without one. With these walks, waits, offsets and starts are what they were before request L6.
abbrev pub no_leasts : ℕ → ℕ
no_leasts i = 0

-- Start times keep a link: the three lines of document 01, an after link with its gap besides, and start(j) at most the end of i plus u. Times have no largest one either.
abbrev pub Keeps : List Operation → (ℕ → ℕ) → (ℕ → ℕ) → Constraint → Type 0
Keeps os d t (sequencing i j g) = t i + duration os d i + g ≤ t j
Keeps os d t (minimum i j m) = t i + m ≤ t j
Keeps os d t (maximum i j u) = t j ≤ t i + u
Keeps os d t (finish_maximum i j u) = t j ≤ t i + duration os d i + u

-- Start times that keep every link. Time counts from the end of step 0.
pub record KeepsAll (os : List Operation) (cs : List Constraint) (d t : ℕ → ℕ) : Type 0 where
  pub starts : t 0 ≡ 0
  pub keeps : (c : Constraint) → Memᴰ c cs → Keeps os d t c

-- An edge of the constraint graph. It asks that start times t have t from + gain ≤ t to + loss; where the edge is counted, with what `from` lasts past its least on the left besides, and where it is
-- late, with what `to` lasts past its least on the right. `back` marks a return.
pub record Edge : Type 0 where
  pub from : ℕ
  pub to : ℕ
  pub gain : ℕ
  pub loss : ℕ
  pub counted : Bool
  pub back : Bool
  pub late : Bool

-- After and at-least links are forward edges from i to j; an at-most link is a return from j to i that weighs −u. An after link weighs the duration plus the gap, an open duration taken as its least; it
-- is counted where i is open and not step 0. There a return from the finish is late and weighs minus u minus the least of i; where i is fixed it is one of its duration plus u, and step 0 ends at tick 0.
unfoldable pub sequencing_edge : Delay → ℕ → ℕ → ℕ → ℕ → Edge
sequencing_edge (Fixed ticks) least i j g = record { from = i; to = j; gain = ticks + g; loss = 0; counted = false; back = false; late = false }
sequencing_edge Open least i j g = record { from = i; to = j; gain = least + g; loss = 0; counted = not (eqb i 0); back = false; late = false }

unfoldable pub finish_edge : Delay → ℕ → ℕ → ℕ → ℕ → Edge
finish_edge (Fixed ticks) least i j u = record { from = j; to = i; gain = 0; loss = ticks + u; counted = false; back = true; late = false }
finish_edge Open least i j u = record { from = j; to = i; gain = 0; loss = least + u; counted = false; back = true; late = not (eqb i 0) }

unfoldable pub edge_of : List Operation → Constraint → Edge
edge_of os (sequencing i j g) = sequencing_edge (delay_at os i) (least_at os i) i j g
edge_of os (minimum i j m) = record { from = i; to = j; gain = m; loss = 0; counted = false; back = false; late = false }
edge_of os (maximum i j u) = record { from = j; to = i; gain = 0; loss = u; counted = false; back = true; late = false }
edge_of os (finish_maximum i j u) = finish_edge (delay_at os i) (least_at os i) i j u

-- The one definition that turns a sheet into its edges.
unfoldable pub edges : List Operation → List Constraint → List Edge
edges os cs = map (edge_of os) cs

-- A graph is a predicate on edges, so that a list, and a list with more edges, are graphs alike.
abbrev pub Graph : Type 1
Graph = Edge → Type 0

abbrev pub members : List Edge → Graph
members es e = Memᴰ e es

infix 20 ◌⊑◌
abbrev pub ◌⊑◌ : Graph → Graph → Type 0
E ⊑ F = (e : Edge) → E e → F e

-- The forward links: all but the returns.
abbrev pub Forward : Graph → Graph
Forward E e = E e × (e.back ≡ false)

unfoldable pub forwards : List Edge → List Edge
forwards es = without (λ e. e.back) es

-- A walk from x to y of k edges, with the sums p of their gains and q of their losses: it weighs p − q, open durations taken as their leasts.
pub data Walk (E : Graph) (x : ℕ) : ℕ → ℕ → ℕ → ℕ → Type 0 where
  stop : {y k p q : ℕ} → x ≡ y → k ≡ 0 → p ≡ 0 → q ≡ 0 → Walk E x y k p q
  step : {y k p q z k' p' q' : ℕ} → Walk E x y k p q → (e : Edge) → E e → e.from ≡ y → e.to ≡ z → k' ≡ suc k → p' ≡ p + e.gain → q' ≡ q + e.loss → Walk E x z k' p' q'

-- A walk, of whatever weight; a chain is one of forward edges.
pub record Joined (E : Graph) (x y : ℕ) : Type 0 where
  pub k : ℕ
  pub p : ℕ
  pub q : ℕ
  pub walk : Walk E x y k p q

-- A walk that begins with an after link out of the open step a, which is not step 0.
pub record AfterWalk (E : Graph) (a y p q : ℕ) : Type 0 where
  pub not_source : a ≢ 0
  pub edge : Edge
  pub mem : E edge
  pub leaves : edge.from ≡ a
  pub counts : edge.counted ≡ true
  pub k : ℕ
  pub g : ℕ
  pub l : ℕ
  pub rest : Walk E edge.to y k g l
  pub gains : p ≡ edge.gain + g
  pub losses : q ≡ edge.loss + l

pub record After (E : Graph) (a y : ℕ) : Type 0 where
  pub p : ℕ
  pub q : ℕ
  pub walk : AfterWalk E a y p q

-- A late return into a. A walk that counts from the end of a, for a wait or an offset, never takes it; every other edge it may use.
abbrev pub LateInto : Edge → ℕ → Type 0
LateInto e a = (e.late ≡ true) × (e.to ≡ a)

abbrev pub UsableFrom : Graph → ℕ → Graph
UsableFrom E a e = E e × ¬ LateInto e a

unfoldable pub late_into : ℕ → Edge → Bool
late_into a e = e.late && eqb e.to a

unfoldable pub usable : List Edge → ℕ → List Edge
usable es a = without (late_into a) es
