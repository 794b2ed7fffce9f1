-- What the reader's report says, and the words and leasts beside it; and what N and R say.
use Rattle.std.specs.Prelude.{◌≡◌, List, ℕ, ◌*◌, ◌≤◌, ◌<◌, length, take, drop, replicate, Result, Ok, Err}
use Rattle.definitions.specs.Answers.{count_of, edges_of}
use Rattle.definitions.specs.Basics.{Outcome, given, refused, test_bit}
use Rattle.definitions.specs.Bytes.{Records}
use Rattle.definitions.specs.Limits.{most_steps, most_records, links_of_record, most_edges}
use Rattle.definitions.specs.Links.{constraints, edges}
use Rattle.definitions.specs.Numbers.{number}
use Rattle.definitions.specs.declared.Refusal.{Refusal}
use Rattle.data_edges.specs.Words.{graph}
use Rattle.read_fields.specs.Counts.{link_count, edge_room}
use Rattle.read_fields.specs.Parts.{outcome}
use Rattle.read_steps.specs.Leaving.{Leasts, unbounded_at}
use Rattle.read_sheet.specs.Parts.{sheet_records}
use Rattle.read_sheet.specs.declared.Head.{Head}
use Rattle.read_sheet.specs.declared.Report.{Report}

-- What is lent to read the bytes s: words for the edges, and a number for the least of each step, where none stands yet.
pub record Lent (s words leasts : List ℕ) : Type 0 where
  pub room : edge_room s ≤ length words
  pub blank : leasts ≡ replicate most_steps 0

-- A sheet as a report, words and leasts hold it: its open steps as a map, its edges as the first words, those of the links that its records say before those of the added links, the number of its records, and the least of
-- each step, 0 where it has none.
pub record Holds (q : Records) (words leasts : List ℕ) (r : Report) : Type 0 where
  pub n : r.n ≡ count_of q
  pub opens : (i : ℕ) → i < r.n → test_bit r.unbounded i ≡ unbounded_at q.steps i
  pub least : Leasts q.steps leasts
  pub few : r.count ≤ most_edges
  pub within : r.count ≤ length words
  pub same : graph (take r.count words) ≡ edges_of q
  pub linked : r.linked ≤ length words
  pub few_linked : r.linked ≤ links_of_record * most_records
  pub sent : graph (take r.linked words) ≡ edges q.steps (constraints q.pairs)
  pub records : r.records ≡ length q.pairs
  pub few_records : r.records ≤ most_records

-- An outcome that gives its records, and how they are held.
pub record Found (p : Outcome Records) (words leasts : List ℕ) (r : Report) : Type 0 where
  pub whole : Records
  pub is_given : p ≡ given whole
  pub holds : Holds whole words leasts r

-- A report on what reading finds: the sheet, or the refusal. What words and leasts hold beside a refusal is not said.
abbrev pub Reports : Outcome Records → List ℕ → List ℕ → Result Report Refusal → Type 0
Reports p words leasts (Ok r) = Found p words leasts r
Reports p words leasts (Err k) = p ≡ refused (number k)

-- N and R of the bytes s, within their limits: the records that they leave to be read are what reading makes of s, which is p.
pub record HeadFound (p : Outcome Records) (s : List ℕ) (h : Head) : Type 0 where
  pub same : outcome (sheet_records h.n h.r) (drop h.at s) ≡ p
  pub inside : h.at ≤ length s
  pub steps : h.n ≤ most_steps
  pub few : h.r ≤ most_records
  pub room : h.r ≤ link_count s

abbrev pub Heads : Outcome Records → List ℕ → Result Head Refusal → Type 0
Heads p s (Ok h) = HeadFound p s h
Heads p s (Err k) = p ≡ refused (number k)
