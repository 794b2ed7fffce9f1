-- What the filter is given and what it reports. A sheet is held as the words of the edges of its link records, in their order, and its number of steps.
use Rattle.std.specs.Prelude.{◌≡◌, Bool, List, ◌++◌, ℕ, ◌+◌, ◌*◌, ◌≤◌, ◌<◌, length, take, drop}
use Rattle.definitions.specs.Answers.{count_of, edges_of}
use Rattle.definitions.specs.Bytes.{Records}
use Rattle.definitions.specs.Clashes.{impossible, few}
use Rattle.definitions.specs.Limits.{most_records, links_of_record, most_added, most_edges}
use Rattle.definitions.specs.Links.{Edge}
use Rattle.data_edges.specs.Words.{graph}
use Rattle.demands.specs.Entered.{sent_edges}
use Rattle.demands.specs.Parts.{Ordered}
use Rattle.demands.proofs.Reading.{Fits}

-- These are the edges of a sheet of n steps: of all its links; of those of its records.
pub record Completed (q : Records) (n : ℕ) (es : List Edge) : Type 0 where
  pub fits : Fits q
  pub steps : n ≡ count_of q
  pub same : es ≡ edges_of q

pub record Sent (q : Records) (n : ℕ) (es : List Edge) : Type 0 where
  pub fits : Fits q
  pub steps : n ≡ count_of q
  pub same : es ≡ sent_edges q

-- ---- whether a part is impossible

-- The words of a completed sheet, and room for their adjacency lists.
pub record Judgeable (n : ℕ) (es lists : List ℕ) : Type 0 where
  pub sheet : Records
  pub holds : Completed sheet n (graph es)
  pub few : length es ≤ most_edges
  pub long : 64 + length es + length es < length lists

-- The words of a part's records: the first c that are lent, and others that are to stand behind them. There is room for these, for the links that are added and for the adjacency lists.
abbrev pub part_edges : List ℕ → ℕ → List ℕ → List Edge
part_edges words c others = graph (take c words) ++ graph others

pub record Triable (n : ℕ) (words : List ℕ) (c : ℕ) (others lists : List ℕ) : Type 0 where
  pub sheet : Records
  pub holds : Sent sheet n (part_edges words c others)
  pub within : c + length others + most_added ≤ length words
  pub few : length words ≤ most_edges
  pub long : 64 + length words + length words < length lists

-- Whether it is impossible, and the first words stay.
pub record Tried (n : ℕ) (words words' : List ℕ) (c : ℕ) (others : List ℕ) (r : Bool) : Type 0 where
  pub stays : take c words' ≡ take c words
  pub judges : (q : Records) → Sent q n (part_edges words c others) → r ≡ impossible q

-- ---- the filter

-- A sheet's records, as its words hold them: their pairs rise, and none is empty.
pub record Recorded (q : Records) (n records : ℕ) (es : List ℕ) : Type 0 where
  pub sent : Sent q n (graph es)
  pub ordered : Ordered q.pairs
  pub counts : records ≡ length q.pairs

-- What the filter is given: the words of the records of some sheet, within the limits, and numbers for its report.
pub record Filterable (n records : ℕ) (es numbers : List ℕ) : Type 0 where
  pub sheet : Records
  pub holds : Recorded sheet n records es
  pub few : length es ≤ links_of_record * most_records
  pub few_records : records ≤ most_records
  pub long : length numbers ≡ most_records

-- What it works on besides: room for a part with its added links, which the words stand at the front of, for the words of the records that stay, and for adjacency lists.
pub record Workable (es part kept lists : List ℕ) : Type 0 where
  pub front : take (length es) part ≡ es
  pub part_long : length part ≡ most_edges
  pub kept_long : length kept ≡ links_of_record * most_records
  pub lists_long : length lists ≡ 64 + most_edges + most_edges + 1

-- Its report: the numbers from `at` on, of as many as were lent, are those of the few records that clash.
pub record Reported (q : Records) (numbers : List ℕ) (at : ℕ) : Type 0 where
  pub long : length numbers ≡ most_records
  pub within : at ≤ most_records
  pub same : drop at numbers ≡ few q
