-- What asking for a row hands back, against the definition.
use Rattle.std.specs.Prelude.{List, [], ℕ}
use Rattle.definitions.specs.Basics.{Outcome, given, refused}

-- The part of a table that a call hands back: the empty part on a refusal.
abbrev pub part_of : Outcome (List ℕ) → List ℕ
part_of (given part) = part
part_of (refused k) = []
