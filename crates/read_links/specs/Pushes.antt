-- What the functions that write edge words are said with: words behind others, and the words of one link record.
use Rattle.std.specs.Prelude.{◌≡◌, Bool, true, false, cond, List, [], ◌∷◌, ◌++◌, ℕ, ◌+◌, ◌≤◌, length, take, drop, Result, Ok, Err}
use Rattle.definitions.specs.Basics.{refused, test_bit}
use Rattle.definitions.specs.Bytes.{two_bytes}
use Rattle.definitions.specs.Limits.{links_of_record}
use Rattle.definitions.specs.Links.{Edge, link_constraints, delay_at, least_at, edges}
use Rattle.definitions.specs.Numbers.{number}
use Rattle.definitions.specs.declared.Link.{Link}
use Rattle.definitions.specs.declared.Operation.{Operation}
use Rattle.definitions.specs.declared.Refusal.{Refusal}
use Rattle.data_edges.specs.Words.{edge, graph, Fit}
use Rattle.read_fields.specs.Answers.{item_at}
use Rattle.read_pair.specs.Parts.{link_fields, link_from}
use Rattle.read_pair.specs.declared.Fields.{Fields}
use Rattle.read_steps.specs.Leaving.{leaving}
use Rattle.read_links.specs.declared.LinkRead.{LinkRead}

-- One, or none.
abbrev pub if_there : {A : Type 0} → Bool → A → List A
if_there there x = cond there (x ∷ []) []

-- The words after a push: as many as before, and the first c' stand for the edges of the first c before, with es behind them.
pub record Pushed (es : List Edge) (words words' : List ℕ) (c c' : ℕ) : Type 0 where
  pub long : length words' ≡ length words
  pub counts : c' ≡ c + length es
  pub same : graph (take c' words') ≡ graph (take c words) ++ es

-- One edge at most is pushed, and the words before it stay.
pub record PushedIf (there : Bool) (e : Edge) (words words' : List ℕ) (c c' : ℕ) : Type 0 where
  pub few : c' ≤ c + 1
  pub kept : take c words' ≡ take c words
  pub pushed : Pushed (if_there there e) words words' c c'

-- The same for the edges of a link record. They are those of any steps of which the record's first adds these digits.
pub record LinkPushed (l : Link) (digits : ℕ) (words words' : List ℕ) (c c' : ℕ) : Type 0 where
  pub long : length words' ≡ length words
  pub counts : c' ≡ c + length (link_constraints l)
  pub same : (os : List Operation) → digits ≡ leaving (delay_at os l.from) (least_at os l.from) l.from → graph (take c' words') ≡ graph (take c words) ++ edges os (link_constraints l)

-- There is room for a record's edges behind the first c words, and its ends fit their digits.
pub record Room (words : List ℕ) (c i j : ℕ) : Type 0 where
  pub room : c + links_of_record ≤ length words
  pub ends : Fit i j

-- Its fields are known too: a gap that the map m does not say is there has 0 ticks.
abbrev pub GapThere : ℕ → Fields → Type 0
GapThere m t = test_bit m 3 ≡ false → t.gap ≡ 0

pub record Pushable (words : List ℕ) (c m i j : ℕ) (t : Fields) : Type 0 where
  pub room : c + links_of_record ≤ length words
  pub ends : Fit i j
  pub gap : GapThere m t

-- There is room, and its fields begin within the bytes.
pub record Ready (s : List ℕ) (at : ℕ) (words : List ℕ) (c i j : ℕ) : Type 0 where
  pub begins : at ≤ length s
  pub room : Room words c i j

-- A link record with the map m for (i, j) is taken, from its fields at the place `at` of the bytes s up to the place `next`, and its edges are pushed.
pub record Took (m i j digits : ℕ) (s : List ℕ) (at : ℕ) (words words' : List ℕ) (c next c' : ℕ) : Type 0 where
  pub fields : Fields
  pub same : link_fields m i j (drop at s) ≡ item_at s (link_from m i j fields) next
  pub inside : next ≤ length s
  pub pushed : LinkPushed (link_from m i j fields) digits words words' c c'

-- The edge of an at-most link on (i, j), or of an at-least link; and its ticks read and the edge pushed, or the ticks refused.
abbrev pub bound_edge : Bool → ℕ → ℕ → ℕ → Edge
bound_edge back i j ticks = cond back (edge j i 0 ticks false true false) (edge i j ticks 0 false false false)

pub record BoundTook (back : Bool) (i j : ℕ) (s : List ℕ) (at : ℕ) (words words' : List ℕ) (c next c' : ℕ) : Type 0 where
  pub ticks : ℕ
  pub same : two_bytes (drop at s) ≡ item_at s ticks next
  pub inside : next ≤ length s
  pub pushed : Pushed (bound_edge back i j ticks ∷ []) words words' c c'

abbrev pub BoundReads : Bool → ℕ → ℕ → List ℕ → ℕ → List ℕ → List ℕ → ℕ → Result LinkRead Refusal → Type 0
BoundReads back i j s at words words' c (Ok r) = BoundTook back i j s at words words' c r.next r.count
BoundReads back i j s at words words' c (Err k) = two_bytes (drop at s) ≡ refused (number k)

-- It is taken, or refused. What the words hold beside a refusal is not said.
abbrev pub LinkReads : ℕ → ℕ → ℕ → ℕ → List ℕ → ℕ → List ℕ → List ℕ → ℕ → Result LinkRead Refusal → Type 0
LinkReads m i j digits s at words words' c (Ok r) = Took m i j digits s at words words' c r.next r.count
LinkReads m i j digits s at words words' c (Err k) = link_fields m i j (drop at s) ≡ refused (number k)
