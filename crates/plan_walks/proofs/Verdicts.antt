-- What is found of a sheet's edges, from an analysis with 10 left out and from what is found out about 10.
use mathlib.Core.Path.{◌≡◌, refl, sym, ap, ◌∙◌}
use Rattle.definitions.specs.Numbers.{Verdict, verdict_of}
use mathlib.Core.Bool.{Bool, true, false, cond, not, ◌&&◌, false≢true}
use mathlib.Core.List.{List}
use Prim.Native.Nat.{ℕ, ◌≤◌}
use native.Mathlib.Omega.{arith}
use lib.ListN.{length, replicate}
use Rattle.definitions.specs.Answers.{infeasible, judge_edges}
use Rattle.definitions.specs.Basics.{Outcome, given, refused}
use Rattle.definitions.specs.Limits.{most_steps}
use Rattle.definitions.specs.Links.{Edge, members}
use Rattle.definitions.specs.Waits.{needs_waits}
use Rattle.demands.proofs.Judging.{judge_given}
use Rattle.demands.proofs.Sheets.{passes_well, serializable_iff}
use Rattle.laws.proofs.Bools.{both_ways}
use Rattle.laws.proofs.Outcomes.{given_not_refused}
use Rattle.data_numbers.specs.Codes.{is_given}
use Rattle.theory.specs.Graphs.{Rooted, SheetGraph}
use Rattle.judge_edges.specs.Analysis.{Listed, Presumed, judge_order}
use Rattle.judge_edges.proofs.Judging.{all_rooted, first_done, order_infeasible, order_refused}
use Rattle.judge_waits.specs.Reaching.{Reaches}
use Rattle.plan_walks.specs.Tables.{Plannable, feasible}

-- An outcome that is an answer has a value.
given_value : (o : Outcome ℕ) → is_given o ≡ true → (v : ℕ) × (o ≡ given v)
given_value (given v) h = (v, refl)
given_value (refused k) h = absurd (false≢true h)

-- An accepted sheet passes 8, 10 and 11, so it can be scheduled for all delays, and its waits are listed.
plannable : {n : ℕ} {least : ℕ → ℕ} {g : List Edge} {allow : Bool} {verdict : Verdict} {reach maps : List ℕ} {count : ℕ} → Listed n g (judge_edges n least g) allow verdict maps count → length reach ≡ most_steps → Reaches n g reach → 1 ≤ n → SheetGraph n least (members g) → is_given (verdict_of verdict) ≡ true → Plannable n least g reach maps
plannable {n} {least} {g} {allow} {verdict} listed long reaches some formed h =
    let r = given_value (verdict_of verdict) h in
    let judged = (judge_given n least g allow r.0).0 (sym listed.judges ∙ r.1) in
    let passes = judged.0 in
    let well = passes_well (omega arith) formed.shape formed.entered passes in
    let waits = listed.found (cond (needs_waits n g) 1 0) ((judge_given n least g true (cond (needs_waits n g) 1 0)).1 (passes, judged.1, never (needs_waits n g), refl)) in
    record { well = well; serial = (serializable_iff least (omega arith) formed.shape well.rooted).0 judged.1; gains = formed.gains; leasts = formed.leasts; long = long; reaches = reaches; waits = waits.0 }
  where
    never : (b : Bool) → (b && not true) ≡ false
    never true = refl
    never false = refl

module _ {n : ℕ} {least : ℕ → ℕ} {g : List Edge} {allow sorted : Bool} {verdict : Verdict} {reach maps : List ℕ} {count : ℕ} (presumed : Presumed n least g allow sorted verdict reach maps count) where
  -- Where 8 applies the verdict is that refusal.
  pub unsorted_refused : sorted ≡ false → is_given (verdict_of verdict) ≡ false
  unsorted_refused h = by (judge_order n g) refl
    where
      by : (o : Outcome (Unit {0})) → judge_order n g ≡ o → is_given (verdict_of verdict) ≡ false
      by (given tt) e = absurd (both_ways (presumed.sorts.1 e) h)
      by (refused k) e = ap is_given ((presumed.unsorted h).judges ∙ order_refused n g least k e allow)

  -- Where it does not every step can be reached.
  pub sorted_rooted : 1 ≤ n → SheetGraph n least (members g) → sorted ≡ true → Rooted n (members g)
  sorted_rooted some formed h = all_rooted n g (presumed.sorts.0 h) some formed.shape formed.entered

  -- And the rest turns on 10: where it does not apply, what was found with 10 left out holds.
  module _ (h : sorted ≡ true) where
    pub feasible_listed : feasible n g ≡ true → Listed n g (judge_edges n least g) allow verdict maps count
    feasible_listed t = presumed.feasible (first_done n g (presumed.sorts.0 h) t)

    pub feasible_plannable : 1 ≤ n → SheetGraph n least (members g) → feasible n g ≡ true → is_given (verdict_of verdict) ≡ true → Plannable n least g reach maps
    feasible_plannable some formed t k = plannable (feasible_listed t) (presumed.long h) (presumed.reaches h) some formed k

    -- Where it applies, it is the verdict, with waits allowed or not, and no waits are listed.
    pub infeasible_listed : {v : Verdict} → feasible n g ≡ false → verdict_of v ≡ refused 10 → Listed n g (judge_edges n least g) allow v (replicate most_steps 0) 0
    unfolding infeasible
    infeasible_listed {v} t e = record { judges = e ∙ sym (ten allow); found = λ w k. absurd (given_not_refused (sym k ∙ ten true)); blank = λ k j. (refl, refl) }
      where
        ten : (b : Bool) → judge_edges n least g b ≡ refused 10
        ten b = order_infeasible n g (presumed.sorts.0 h) least (ap not t) b
