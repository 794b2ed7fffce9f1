-- What is answered about the map, the pair and the fields of a link record.
use Rattle.std.specs.Prelude.{◌≡◌, Bool, not, ◌&&◌, cond, List, ℕ, ◌+◌, ◌*◌, ◌≤◌, ◌<◌, leb, length, drop, Result, Ok, Err, None, Some}
use Rattle.definitions.specs.Bytes.{Previous, Taken, link_map, sequenced}
use Rattle.definitions.specs.Basics.{Outcome, refused}
use Rattle.definitions.specs.Numbers.{number}
use Rattle.definitions.specs.declared.Link.{Link}
use Rattle.definitions.specs.declared.Refusal.{Refusal}
use Rattle.read_fields.specs.Answers.{Reads}
use Rattle.read_fields.specs.declared.Item.{Item}
use Rattle.read_pair.specs.Parts.{link_fields, link_ticks}
use Rattle.read_pair.specs.declared.Fields.{Fields}
use Rattle.read_pair.specs.declared.Pair.{Pair}

-- The number of a pair (i, j) of bytes: pairs rise as their numbers do, because j is the lower digit to the base 256.
abbrev pub Ranks : ℕ → ℕ → ℕ → Type 0
Ranks i j r = (r ≡ i * 256 + j) × (j < 256)

-- The number of the pair before, by which pairs are compared: 0 where there is none, which no pair of two steps has.
abbrev pub Ranked : Previous → ℕ → Type 0
Ranked None last = last ≡ 0
Ranked (Some (i, j)) last = Ranks i j last

-- The maps that are allowed; and those of them with bit 3 or bit 4.
abbrev pub allowed : ℕ → Bool
allowed m = link_map m && sequenced m

abbrev pub upper_allowed : ℕ → Bool
upper_allowed m = leb 8 m && allowed m

-- What is refused in a map that is not allowed.
abbrev pub map_refusal : ℕ → ℕ
map_refusal m = cond (link_map m && not (sequenced m)) 26 4

-- A link record from its fields on, which begin at a place of the bytes s; or a refusal by its number.
abbrev pub pair_read : List ℕ → ℕ → Result Pair Refusal → Outcome (Taken Link)
pair_read s at (Ok p) = link_fields p.map p.from p.to (drop at s)
pair_read s at (Err k) = refused (number k)

-- The fields begin within the bytes, and both ends are steps.
pub record Within (s : List ℕ) (at n i j : ℕ) : Type 0 where
  pub begins : at ≤ length s
  pub from : i < n
  pub to : j < n

abbrev pub pair_within : List ℕ → ℕ → ℕ → Result Pair Refusal → Type 0
pair_within s at n (Ok p) = Within s at n p.from p.to
pair_within s at n (Err k) = Unit {0}

-- What is left to read, from the place `at` on, makes the whole record.
pub record PairReads (s : List ℕ) (at n : ℕ) (whole : Outcome (Taken Link)) (r : Result Pair Refusal) : Type 0 where
  pub same : pair_read s at r ≡ whole
  pub inside : pair_within s at n r

abbrev pub FieldsReads : List ℕ → ℕ → ℕ → Result (Item Fields) Refusal → Type 0
FieldsReads s at m r = Reads s at (link_ticks m) r
