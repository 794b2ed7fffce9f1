-- R, and the words that the edges of a sheet with so many link records may need.
use mathlib.Core.Path.{◌≡◌, sym, ◌∙◌}
use mathlib.Core.Bool.{true}
use mathlib.Core.List.{List}
use Prim.Native.Nat.{ℕ, ◌+◌, ◌*◌, ◌≤◌, ◌<◌, min}
use native.Mathlib.Decide.{dec_lt}
use native.Mathlib.Omega.{arith}
use lib.Dec.{leb}
use lib.ListN.{drop}
use borrow.Author.Tests.{le-leb, lt-leb, leb-true}
use Rattle.definitions.specs.Basics.{Outcome, given, refused}
use Rattle.definitions.specs.Bytes.{Taken, two_bytes}
use Rattle.definitions.specs.Limits.{links_of_record, most_records, most_added, most_edges}
use Rattle.read_fields.specs.Counts.{count_within, link_count, edge_room}

-- Where R is within its limit, there is to be room for all of the records.
pub count_there : (s : List ℕ) {r : ℕ} {rest : List ℕ} → two_bytes (drop 1 s) ≡ given (record { value = r; rest = rest }) → r ≤ most_records → link_count s ≡ r
unfolding link_count count_within
count_there s e h = rw e (omega arith)

count_most : (o : Outcome (Taken ℕ)) → count_within o ≤ most_records
unfolding count_within
count_most (given t) = omega arith
count_most (refused k) = omega arith

-- Words that are enough for a brief sheet's edges, and for any sheet's.
pub room_brief : (s : List ℕ) (most : ℕ) → leb (link_count s) most ≡ true → edge_room s ≤ links_of_record * most + most_added
room_brief s most e = let b = leb-true (link_count s) most e in omega arith

pub room_any : (s : List ℕ) → edge_room s ≤ most_edges
unfolding link_count
room_any s = let b = count_most (two_bytes (drop 1 s)) in omega arith

-- Whether R is small: the limit is above the number that it is compared with.
module _ (s : List ℕ) (most : ℕ) where
  pub brief_there : {r : ℕ} {rest : List ℕ} → two_bytes (drop 1 s) ≡ given (record { value = r; rest = rest }) → most < most_records → leb r most ≡ leb (link_count s) most
  unfolding link_count count_within
  brief_there {r} e below = rw e (go (dec_lt most r))
    where
      go : Dec (most < r) → leb r most ≡ leb (min most_records r) most
      go (yes h) = lt-leb r most h ∙ sym (lt-leb (min most_records r) most (omega arith))
      go (no h) = let b : r ≤ most = omega arith in le-leb r most b ∙ sym (le-leb (min most_records r) most (omega arith))

  pub brief_refused : {k : ℕ} → two_bytes (drop 1 s) ≡ refused k → true ≡ leb (link_count s) most
  unfolding link_count count_within
  brief_refused e = rw e (sym (le-leb 0 most (omega arith)))
