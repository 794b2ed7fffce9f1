-- The bytes of a sheet, as they are put: its link records in an order that is given by their numbers.
use mathlib.Core.List.{List, ◌∷◌, ◌++◌, flat_map, map}
use Rattle.std.specs.Prelude.{ℕ, ◌+◌, ◌≤◌, ◌<◌, length, get_or, take}
use Rattle.definitions.specs.Clashes.{blank_link}
use Rattle.definitions.specs.Limits.{most_records, most_steps}
use Rattle.definitions.specs.Writer.{link_bytes, operation_bytes, two_bytes_of}
use Rattle.definitions.specs.declared.Link.{Link}
use Rattle.definitions.specs.declared.Operation.{Operation}

-- The records with these numbers.
abbrev pub numbered : List Link → List ℕ → List Link
numbered links ks = map (λ k. get_or links k blank_link) ks

-- The bytes of the first n steps, and of the records with the first r numbers of the order.
abbrev pub steps_text : List Operation → ℕ → List ℕ
steps_text steps n = flat_map operation_bytes (take n steps)

abbrev pub links_text : List Link → List ℕ → ℕ → List ℕ
links_text links order r = flat_map link_bytes (numbered links (take r order))

unfoldable pub sheet_text : ℕ → List Operation → ℕ → List Link → List ℕ → List ℕ
sheet_text n steps r links order = n ∷ two_bytes_of r ++ steps_text steps n ++ links_text links order r

-- Numbers of records that there are.
pub record OrderFits (order : List ℕ) (r : ℕ) : Type 0 where
  pub long : r ≤ length order
  pub inside : (i : ℕ) → i < r → get_or order i 0 < most_records

-- What putting asks: room at a place of the buffer.
pub record StepsFit (steps : List Operation) (n : ℕ) (out : List ℕ) (at : ℕ) : Type 0 where
  pub few : n ≤ most_steps
  pub room : at + length (steps_text steps n) ≤ length out

pub record LinksFit (links : List Link) (order : List ℕ) (r : ℕ) (out : List ℕ) (at : ℕ) : Type 0 where
  pub few : r ≤ most_records
  pub ordered : OrderFits order r
  pub room : at + length (links_text links order r) ≤ length out

pub record SheetFits (n : ℕ) (steps : List Operation) (r : ℕ) (links : List Link) (order out : List ℕ) : Type 0 where
  pub few_steps : n ≤ most_steps
  pub few_links : r ≤ most_records
  pub ordered : OrderFits order r
  pub room : length (sheet_text n steps r links order) ≤ length out
