-- What a sheet gives to the theorems about it: once it is read, once it is well-formed, and once it is accepted. Its graph, and what each answer of judging says of it.
use mathlib.Core.Path.{◌≡◌, sym, ◌∙◌}
use mathlib.Core.Bool.{Bool, true, false, cond, not, ◌&&◌}
use mathlib.Core.Logic.{◌≢◌, ◌↔◌}
use mathlib.Core.List.{List}
use Prim.Native.Nat.{ℕ}
use Rattle.definitions.specs.Basics.{Outcome, refused}
use Rattle.definitions.specs.Bytes.{Records}
use Rattle.definitions.specs.Links.{members}
use Rattle.definitions.specs.Waits.{needs_waits, serialized}
use Rattle.definitions.specs.Answers.{closes_circle, infeasible, inconsistent, unserializable, judged, judge_edges, count_of, edges_of, leasts_of}
use Rattle.laws.proofs.Bools.{not_passing}
use Rattle.theory.specs.Graphs.{ForwardAcyclic, Rooted, Serializable, Shape, Well}
use Rattle.demands.specs.Demands.{Accepted, WellFormed}
use Rattle.demands.proofs.Reading.{Fits, fits_of}
use Rattle.demands.proofs.Edges.{sheet_entered, sheet_shape}
use Rattle.demands.proofs.Judging.{Passes, judge_10, judge_11, judge_28, judge_given, judged_edges}
use Rattle.demands.proofs.Sheets.{acyclic_rooted, not_8, not_10_11, passes_well, serializable_iff}

-- A statement about judging edges, read as one about judging the sheet's bytes.
on_bytes : {o p : Outcome ℕ} {k : ℕ} {P : Type 0} → o ≡ p → (p ≡ refused k) ↔ P → (o ≡ refused k) ↔ P
on_bytes e r = (λ h. r.0 (sym e ∙ h), λ h. e ∙ r.1 h)

-- Records that fit and whose forward links close no circle: those of a well-formed sheet, and every part of them (request L14). Where they are neither 10 nor 11 they can be scheduled for all delays.
pub record Regular (q : Records) : Type 0 where
  pub fits : Fits q
  pub no_circle : closes_circle (count_of q) (edges_of q) ≡ false

module _ {q : Records} (regular : Regular q) where
  pub regular_shape : Shape (count_of q) (members (edges_of q))
  regular_shape = sheet_shape regular.fits

  pub regular_rooted : Rooted (count_of q) (members (edges_of q))
  regular_rooted = acyclic_rooted regular.fits.some regular_shape (sheet_entered regular.fits) regular.no_circle

  pub regular_acyclic : ForwardAcyclic (members (edges_of q))
  regular_acyclic = not_8 regular.fits.some regular_shape regular.no_circle

  pub regular_well : infeasible (count_of q) (edges_of q) ≡ false → inconsistent (count_of q) (edges_of q) ≡ false → Well (count_of q) (members (edges_of q))
  regular_well = not_10_11 regular.fits.some regular_shape regular_rooted

-- A well-formed sheet.
module _ {s : List ℕ} {q : Records} (formed : WellFormed s q) where
  pub formed_fits : Fits q
  formed_fits = fits_of formed.sheet

  pub formed_regular : Regular q
  formed_regular = record { fits = formed_fits; no_circle = formed.no_circle }

  pub formed_shape : Shape (count_of q) (members (edges_of q))
  formed_shape = regular_shape formed_regular

  pub formed_rooted : Rooted (count_of q) (members (edges_of q))
  formed_rooted = regular_rooted formed_regular

  pub formed_acyclic : ForwardAcyclic (members (edges_of q))
  formed_acyclic = regular_acyclic formed_regular

  pub formed_well : infeasible (count_of q) (edges_of q) ≡ false → inconsistent (count_of q) (edges_of q) ≡ false → Well (count_of q) (members (edges_of q))
  formed_well = regular_well formed_regular

  pub formed_serial : (unserializable (count_of q) (leasts_of q) (edges_of q) ≡ false) ↔ Serializable (members (serialized (count_of q) (leasts_of q) (edges_of q)))
  formed_serial = serializable_iff (leasts_of q) formed_fits.some formed_shape formed_rooted

  module _ (allow : Bool) where
    as_judged : judged s allow ≡ judge_edges (count_of q) (leasts_of q) (edges_of q) allow
    as_judged = judged_edges s formed.sheet.reads allow

    pub judged_10 : (judged s allow ≡ refused 10) ↔ (infeasible (count_of q) (edges_of q) ≡ true)
    judged_10 = on_bytes as_judged (judge_10 (count_of q) (leasts_of q) (edges_of q) allow formed.no_circle)

    pub judged_11 : (judged s allow ≡ refused 11) ↔ ((infeasible (count_of q) (edges_of q) ≡ false) × (inconsistent (count_of q) (edges_of q) ≡ true))
    judged_11 = on_bytes as_judged (judge_11 (count_of q) (leasts_of q) (edges_of q) allow formed.no_circle)

    pub judged_28 : (judged s allow ≡ refused 28) ↔ ((infeasible (count_of q) (edges_of q) ≡ false) × (inconsistent (count_of q) (edges_of q) ≡ false) × (unserializable (count_of q) (leasts_of q) (edges_of q) ≡ true))
    judged_28 = on_bytes as_judged (judge_28 (count_of q) (leasts_of q) (edges_of q) allow formed.no_circle)

    pub not_judged_10 : judged s allow ≢ refused 10 → infeasible (count_of q) (edges_of q) ≡ false
    not_judged_10 h = not_passing (infeasible (count_of q) (edges_of q)) (λ t. h (judged_10.1 t))

    pub not_judged_11 : infeasible (count_of q) (edges_of q) ≡ false → judged s allow ≢ refused 11 → inconsistent (count_of q) (edges_of q) ≡ false
    not_judged_11 feasible h = not_passing (inconsistent (count_of q) (edges_of q)) (λ t. h (judged_11.1 (feasible, t)))

-- An accepted sheet: no refusal applies to it, and its waits can be put in.
module _ {s : List ℕ} {allow : Bool} {q : Records} {v : ℕ} (accepted : Accepted s allow q v) where
  pub accepted_fits : Fits q
  accepted_fits = fits_of accepted.sheet

  accepted_judged : Passes (count_of q) (edges_of q) × (unserializable (count_of q) (leasts_of q) (edges_of q) ≡ false) × ((needs_waits (count_of q) (edges_of q) && not allow) ≡ false) × (cond (needs_waits (count_of q) (edges_of q)) 1 0 ≡ v)
  accepted_judged = (judge_given (count_of q) (leasts_of q) (edges_of q) allow v).0 (sym (judged_edges s accepted.sheet.reads allow) ∙ accepted.accepts)

  pub accepted_verdict : cond (needs_waits (count_of q) (edges_of q)) 1 0 ≡ v
  accepted_verdict = accepted_judged.3

  pub accepted_well : Well (count_of q) (members (edges_of q))
  accepted_well = passes_well accepted_fits.some (sheet_shape accepted_fits) (sheet_entered accepted_fits) accepted_judged.0

  pub accepted_serial : Serializable (members (serialized (count_of q) (leasts_of q) (edges_of q)))
  accepted_serial = (serializable_iff (leasts_of q) accepted_fits.some (sheet_shape accepted_fits) accepted_well.rooted).0 accepted_judged.1
