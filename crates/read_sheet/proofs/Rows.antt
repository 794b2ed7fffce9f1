-- The report that a row of step records makes, with the words of the link records that follow it.
use mathlib.Core.Path.{◌≡◌, sym, ap, ◌∙◌}
use mathlib.Core.List.{List}
use Prim.Native.Nat.{ℕ}
use native.Mathlib.Omega.{arith}
use lib.ListN.{drop}
use Rattle.definitions.specs.Answers.{edges_of}
use Rattle.definitions.specs.Basics.{Outcome, refused, when_given}
use Rattle.definitions.specs.Bytes.{Records}
use Rattle.definitions.specs.Links.{constraints, completed, links_of, edges}
use Rattle.read_fields.specs.Parts.{outcome}
use Rattle.read_records.specs.Answers.{Fits, LinksFound}
use Rattle.read_records.specs.Parts.{last_links}
use Rattle.read_records.specs.declared.LinksRead.{LinksRead}
use Rattle.read_steps.specs.Answers.{Stepped}
use Rattle.read_sheet.specs.Answers.{Holds, Found, HeadFound}
use Rattle.read_sheet.specs.declared.Head.{Head}
use Rattle.read_sheet.specs.declared.Report.{Report}
use Rattle.read_sheet.proofs.Parts.{with_pairs}

-- The number of steps is the row's length, the leasts are the row's, and the words are those of the link records.
module _ (p : Outcome Records) (s : List ℕ) (head : Head) (middle : ℕ) (digits leasts : List ℕ) (unbounded : ℕ) (heads : HeadFound p s head) (row : Stepped s head.at head.n digits leasts unbounded middle) where
  abbrev rest : List ℕ
  rest = drop middle s

  module _ (words : List ℕ) (pairs : LinksRead) (found : LinksFound rest head.n head.r digits words pairs) (fits : Fits head.n head.r words) where
    abbrev made : Report
    made = record { n = head.n; unbounded = unbounded; count = pairs.count; linked = pairs.linked; records = head.r }

    abbrev whole : Records
    whole = record { steps = row.steps; pairs = found.links }

    holds : Holds whole words leasts made
    unfolding edges_of links_of
    holds = record {
      n = sym row.count;
      opens = row.opens;
      least = row.least;
      few = omega (arith, found.few, heads.few);
      within = omega (arith, found.few, fits.room);
      same = found.same row.steps row.leaves ∙ ap (λ (k : ℕ). edges row.steps (completed k (constraints found.links))) (sym row.count);
      linked = omega (arith, found.linked, fits.room);
      few_linked = omega (arith, found.linked, heads.few);
      sent = found.sent row.steps row.leaves;
      records = sym found.records;
      few_records = heads.few;
    }

    pub report_found : Found p words leasts made
    unfolding when_given
    report_found = record {
      whole = whole;
      is_given = sym heads.same ∙ with_pairs head.n head.r (drop head.at s) row.same ∙ rw found.are_given;
      holds = holds;
    }

  -- The link records are refused.
  pub pairs_refused : {k : ℕ} → outcome (last_links head.n head.r) rest ≡ refused k → p ≡ refused k
  unfolding when_given
  pairs_refused e = sym heads.same ∙ with_pairs head.n head.r (drop head.at s) row.same ∙ rw e
