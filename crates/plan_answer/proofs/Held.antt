-- A sheet as the reader holds it, in a report and in words.
use mathlib.Core.Path.{◌≡◌, sym, subst, fun_ext}
use mathlib.Core.List.{List}
use Prim.Native.Nat.{ℕ}
use native.Mathlib.Omega.{arith}
use lib.ListN.{take, length-take}
use Rattle.definitions.specs.Answers.{count_of, leasts_of, edges_of}
use Rattle.definitions.specs.Bytes.{Records}
use Rattle.definitions.specs.Links.{Edge, members}
use Rattle.demands.proofs.Edges.{sheet_entered, sheet_gains, sheet_leasts, sheet_shape}
use Rattle.demands.proofs.Reading.{Fits}
use Rattle.data_edges.specs.Serial.{leasts_in}
use Rattle.data_edges.specs.Words.{graph}
use Rattle.read_sheet.specs.Answers.{Holds}
use Rattle.read_sheet.specs.declared.Report.{Report}
use Rattle.plan_walks.specs.Tables.{SheetEdges}
use Rattle.theory.specs.Graphs.{SheetGraph}
use Rattle.theory.proofs.DelayLimits.{least_source}

-- The edges that its words stand for.
abbrev pub word_edges : List ℕ → Report → List Edge
word_edges words report = graph (take report.count words)

module _ {q : Records} {words leasts : List ℕ} {report : Report} (fits : Fits q) (holds : Holds q words leasts report) where
  -- The leasts are those of its steps.
  same_leasts : leasts_in leasts ≡ leasts_of q
  same_leasts = fun_ext (λ a. holds.least a)

  -- What holds of its steps, leasts and edges holds of the words and the numbers, and the other way round.
  held_by : (P : ℕ → (ℕ → ℕ) → List Edge → Type 0) → P (count_of q) (leasts_of q) (edges_of q) → P report.n (leasts_in leasts) (word_edges words report)
  held_by P p =
      subst (λ (n : ℕ). P n (leasts_in leasts) (word_edges words report)) (sym holds.n)
      (subst (λ (l : ℕ → ℕ). P (count_of q) l (word_edges words report)) (sym same_leasts)
      (subst (λ (g : List Edge). P (count_of q) (leasts_of q) g) (sym holds.same) p))

  pub by_held : (P : ℕ → (ℕ → ℕ) → List Edge → Type 0) → P report.n (leasts_in leasts) (word_edges words report) → P (count_of q) (leasts_of q) (edges_of q)
  by_held P p =
      subst (λ (g : List Edge). P (count_of q) (leasts_of q) g) holds.same
      (subst (λ (l : ℕ → ℕ). P (count_of q) l (word_edges words report)) same_leasts
      (subst (λ (n : ℕ). P n (leasts_in leasts) (word_edges words report)) holds.n p))

  -- The words are the edges of a sheet: their number and that of the steps are within their limits.
  pub held_sheet : SheetEdges report.n (leasts_in leasts) (take report.count words)
  held_sheet = record {
    some = omega (arith, holds.n, fits.some);
    few = omega (arith, holds.n, fits.few);
    edges = omega (arith, holds.few, length-take report.count words);
    formed = held_by (λ n least g. SheetGraph n least (members g)) (record { shape = sheet_shape fits; entered = sheet_entered fits; gains = sheet_gains fits; leasts = record { source = least_source q.steps; small = fits.leasts; leasts = sheet_leasts fits } });
  }
