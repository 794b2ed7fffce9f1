-- What comes right before what, blocked as rows of bits, and an order of the steps in which each comes behind those right before it. Steps are put into the order one after another; those that are not yet are left.
use Rattle.std.specs.Prelude.{◌≡◌, Bool, true, false, not, ◌&&◌, List, ◌⊎◌, ℕ, ◌+◌, ◌<◌, ◌≤◌, eqb, length, get_or, set}
use Rattle.definitions.specs.Basics.{select_below, test_bit}
use Rattle.definitions.specs.Links.{Edge}
use Rattle.data_relations.specs.Rows.{row_bit, Gathered}

-- A forward edge leads from k to v.
abbrev pub precedes : ℕ → ℕ → Edge → Bool
precedes v k e = eqb v e.to && (not e.back && eqb k e.from)

-- Bit u of row v: a forward edge leads from u to v, so u comes right before v.
abbrev pub Predecessors : List Edge → List ℕ → Type 0
Predecessors g rows = Gathered precedes g rows

-- A counted edge leads from k to v. Bit u of row v: one leads from u to v, so u is an anchor of v.
abbrev pub counts_into : ℕ → ℕ → Edge → Bool
counts_into v k e = eqb v e.to && (e.counted && eqb k e.from)

abbrev pub Counted : List Edge → List ℕ → Type 0
Counted g rows = Gathered counts_into g rows

-- A step that is tried, and the place that it would get, are inside.
pub record Room (order : List ℕ) (u placed : ℕ) : Type 0 where
  pub long : length order ≡ 64
  pub step : u < 64
  pub place : placed < 64

-- A step of the map `before` is left.
pub record Blocked (before left : ℕ) : Type 0 where
  pub step : ℕ
  pub comes : test_bit before step ≡ true
  pub stays : test_bit left step ≡ true

-- Step u was tried: one of those right before it is left, and nothing changed; or none is, and it was put at the next place.
pub record Kept (before : ℕ) (order order' : List ℕ) (left left' placed placed' : ℕ) : Type 0 where
  pub blocked : Blocked before left
  pub same_order : order' ≡ order
  pub same_left : left' ≡ left
  pub same_placed : placed' ≡ placed

pub record Put (before u : ℕ) (order order' : List ℕ) (left left' placed placed' : ℕ) : Type 0 where
  pub free : (k : ℕ) → test_bit before k ≡ true → test_bit left k ≡ false
  pub stores : order' ≡ set order placed u
  pub leaves : (k : ℕ) → test_bit left' k ≡ (test_bit left k && not (eqb k u))
  pub next : placed' ≡ placed + 1

abbrev pub Tried : ℕ → ℕ → List ℕ → List ℕ → ℕ → ℕ → ℕ → ℕ → Type 0
Tried before u order order' left left' placed placed' = Kept before order order' left left' placed placed' ⊎ Put before u order order' left left' placed placed'

-- Step v of n is in the order.
pub record Gone (n left v : ℕ) : Type 0 where
  pub below : v < n
  pub taken : test_bit left v ≡ false

-- The first places of the order hold the steps of n that are not left, each behind those right before it. The rank of a step is its place.
pub record Placing (n : ℕ) (rows order : List ℕ) (left placed : ℕ) : Type 0 where
  pub long : length order ≡ 64
  pub within : (v : ℕ) → test_bit left v ≡ true → v < n
  pub count : placed + length (select_below (test_bit left) n) ≡ n
  pub rank : ℕ → ℕ
  pub low : (v : ℕ) → Gone n left v → rank v < placed
  pub here : (v : ℕ) → Gone n left v → get_or order (rank v) 0 ≡ v
  pub filled : (i : ℕ) → i < placed → Gone n left (get_or order i 0)
  pub ranked : (i : ℕ) → i < placed → rank (get_or order i 0) ≡ i
  pub behind : (u v : ℕ) → u < n → Gone n left v → row_bit rows v u ≡ true → test_bit left u ≡ false
  pub rises : (u v : ℕ) → u < n → Gone n left v → row_bit rows v u ≡ true → rank u < rank v

-- Every step that is left was tried. Where none went, each has one right before it that is left.
pub record PassedOver (n : ℕ) (rows order' : List ℕ) (left left' placed placed' : ℕ) : Type 0 where
  pub placing : Placing n rows order' left' placed'
  pub further : placed ≤ placed'
  pub stuck : placed' ≡ placed → (v : ℕ) → test_bit left v ≡ true → Blocked (get_or rows v 0) left

-- All n steps are in the order, each behind those right before it: the relation closes no circle.
pub record Ordered (n : ℕ) (rows order : List ℕ) : Type 0 where
  pub rank : ℕ → ℕ
  pub low : (v : ℕ) → v < n → rank v < n
  pub here : (v : ℕ) → v < n → get_or order (rank v) 0 ≡ v
  pub filled : (i : ℕ) → i < n → get_or order i 0 < n
  pub ranked : (i : ℕ) → i < n → rank (get_or order i 0) ≡ i
  pub rises : (u v : ℕ) → u < n → v < n → row_bit rows v u ≡ true → rank u < rank v

-- Some steps of n, each with one of them right before it: going back from one to the next closes a circle.
pub record Stuck (n : ℕ) (rows : List ℕ) : Type 0 where
  pub left : ℕ
  pub some : ℕ
  pub member : test_bit left some ≡ true
  pub within : (v : ℕ) → test_bit left v ≡ true → v < n
  pub blocked : (v : ℕ) → test_bit left v ≡ true → Blocked (get_or rows v 0) left

-- The answer: an order, or steps that close a circle.
pub record Arranged (n : ℕ) (rows order : List ℕ) (found : Bool) : Type 0 where
  pub ordered : found ≡ true → Ordered n rows order
  pub circle : found ≡ false → Stuck n rows
