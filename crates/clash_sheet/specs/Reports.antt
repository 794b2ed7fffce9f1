-- What asking for the records that clash returns.
use Rattle.std.specs.Prelude.{◌≡◌, List, ℕ, ◌+◌, ◌*◌, ◌≤◌, length, take}
use Rattle.definitions.specs.Numbers.{Tally, tally_of}
use Rattle.definitions.specs.Answers.{too_short, written}
use Rattle.definitions.specs.Basics.{Outcome, given, refuse_if}
use Rattle.definitions.specs.Bytes.{Records}
use Rattle.definitions.specs.Clashes.{few, few_answer, few_verdict}
use Rattle.definitions.specs.Limits.{links_of_record, most_edges, most_records}
use Rattle.data_edges.specs.Words.{graph}
use Rattle.clash_filter.specs.Sheets.{Completed, Recorded}

-- The call on the bytes s, lent a list, returns r and leaves the list after it: the answer of the definitions. What is promised of it (crate promises) is promised of what this says.
pub record FewReturned (s list : List ℕ) (r : Tally) (after : List ℕ) : Type 0 where
  pub tally : tally_of r ≡ (few_answer s list).verdict
  pub numbers : after ≡ (few_answer s list).numbers

-- A report handed out to a list: 14 where it is too short.
abbrev pub handed : List ℕ → List ℕ → Outcome ℕ
handed report list = refuse_if (too_short list (length report)) 14 (given (length report))

pub record Handed (report list : List ℕ) (r : Tally) (after : List ℕ) : Type 0 where
  pub tally : tally_of r ≡ handed report list
  pub numbers : after ≡ written (handed report list) report list

-- A sheet as words hold it: its edges, those of its records before those of the added links, within their limits.
pub record Holding (q : Records) (words : List ℕ) (count linked records n : ℕ) : Type 0 where
  pub completed : Completed q n (graph (take count words))
  pub recorded : Recorded q n records (take linked words)

pub record Held (words : List ℕ) (count linked records n : ℕ) : Type 0 where
  pub sheet : Records
  pub holds : Holding sheet words count linked records n
  pub within : count ≤ length words
  pub few : count ≤ most_edges
  pub linked_within : linked ≤ length words
  pub few_linked : linked ≤ links_of_record * most_records
  pub few_records : records ≤ most_records

-- The words of the edges of some sheet; those of its records.
pub record EdgeWords (n : ℕ) (es : List ℕ) : Type 0 where
  pub sheet : Records
  pub holds : Completed sheet n (graph es)
  pub few : length es ≤ most_edges

pub record RecordWords (n records : ℕ) (es : List ℕ) : Type 0 where
  pub sheet : Records
  pub holds : Recorded sheet n records es
  pub few : length es ≤ links_of_record * most_records
  pub few_records : records ≤ most_records

-- How many numbers the adjacency lists of all edges that there may be take: the constant of the same name in the code.
abbrev pub most_listed : ℕ
most_listed = 64 + 2 * most_edges + 1

-- What is answered of a sheet that was read.
pub record Answered (q : Records) (list : List ℕ) (r : Tally) (after : List ℕ) : Type 0 where
  pub tally : tally_of r ≡ few_verdict q list
  pub numbers : after ≡ written (few_verdict q list) (few q) list
