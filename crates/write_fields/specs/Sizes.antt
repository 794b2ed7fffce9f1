-- What the functions of this crate say of maps, of sizes and of the parts of a record.
use Rattle.std.specs.Prelude.{◌≡◌, List, [], ◌∷◌, ℕ, ◌+◌, ◌≤◌, length}
use Rattle.definitions.specs.Writer.{link_map_of}
use Rattle.definitions.specs.declared.Link.{Link}

-- A digit of a map is r, and at most its bit.
pub record BitFor (bit digit r : ℕ) : Type 0 where
  pub same : r ≡ digit
  pub small : r ≤ bit

-- The size of a text of at most so many bytes.
pub record Sized (most : ℕ) (text : List ℕ) (r : ℕ) : Type 0 where
  pub same : r ≡ length text
  pub small : r ≤ most

-- A step record whose map is not allowed has two fields.
abbrev pub largest_step : ℕ
largest_step = 1 + 2 + 2

-- A link record begins with its map and its pair.
unfoldable pub link_front : Link → List ℕ
link_front l = link_map_of l ∷ l.from ∷ l.to ∷ []
