-- What is answered about the link records of a sheet, and what the words hold.
use Rattle.std.specs.Prelude.{◌≡◌, List, ℕ, ◌+◌, ◌*◌, ◌≤◌, length, take, Result, Ok, Err}
use Rattle.definitions.specs.Basics.{given, refused}
use Rattle.definitions.specs.Limits.{most_steps, links_of_record, most_added}
use Rattle.definitions.specs.Numbers.{number}
use Rattle.definitions.specs.Links.{constraints, completed, edges}
use Rattle.definitions.specs.declared.Link.{Link}
use Rattle.definitions.specs.declared.Operation.{Operation}
use Rattle.definitions.specs.declared.Refusal.{Refusal}
use Rattle.data_edges.specs.Words.{graph}
use Rattle.read_fields.specs.Parts.{outcome}
use Rattle.read_steps.specs.Leaving.{Leaves}
use Rattle.read_records.specs.Parts.{last_links}
use Rattle.read_records.specs.declared.LinksRead.{LinksRead}

-- Steps within their limit, and room in the words for the edges of r link records and of the added links.
pub record Fits (n r : ℕ) (words : List ℕ) : Type 0 where
  pub steps : n ≤ most_steps
  pub room : links_of_record * r + most_added ≤ length words

-- The r link records are the whole of the bytes s; the first words stand for the edges of their links, completed, for all n steps that add these digits, and the first of these for the edges of the links that the records
-- themselves say.
pub record LinksFound (s : List ℕ) (n r : ℕ) (digits words : List ℕ) (q : LinksRead) : Type 0 where
  pub links : List Link
  pub are_given : outcome (last_links n r) s ≡ given links
  pub records : length links ≡ r
  pub few : q.count ≤ links_of_record * r + most_added
  pub same : (os : List Operation) → Leaves os n digits → graph (take q.count words) ≡ edges os (completed n (constraints links))
  pub linked : q.linked ≤ links_of_record * r
  pub sent : (os : List Operation) → Leaves os n digits → graph (take q.linked words) ≡ edges os (constraints links)

-- They are read, or the first fault is met. What the words hold beside a refusal is not said.
abbrev pub LinksReads : List ℕ → ℕ → ℕ → List ℕ → List ℕ → Result LinksRead Refusal → Type 0
LinksReads s n r digits words (Ok q) = LinksFound s n r digits words q
LinksReads s n r digits words (Err k) = outcome (last_links n r) s ≡ refused (number k)
