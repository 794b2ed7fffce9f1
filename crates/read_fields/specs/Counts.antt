-- R, the number of link records of a sheet, and the words that its edges may need.
use Rattle.std.specs.Prelude.{List, ℕ, ◌+◌, ◌*◌, min, drop}
use Rattle.definitions.specs.Basics.{Outcome, given, refused}
use Rattle.definitions.specs.Bytes.{Taken, two_bytes}
use Rattle.definitions.specs.Limits.{links_of_record, most_records, most_added}

-- How many link records have to find room: R, but at most its limit; none where R is not there.
unfoldable pub count_within : Outcome (Taken ℕ) → ℕ
count_within (given t) = min most_records t.value
count_within (refused k) = 0

-- R stands behind the first byte, which is N.
unfoldable pub link_count : List ℕ → ℕ
link_count s = count_within (two_bytes (drop 1 s))

-- The edges of so many records, and those of the added links (request L3).
abbrev pub edge_room : List ℕ → ℕ
edge_room s = links_of_record * link_count s + most_added
