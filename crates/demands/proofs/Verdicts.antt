-- What each answer of judging says of a sheet, in the words of document 01. The tests behind the answers are the relations, and 10 and 11 are settled by the lists.
use mathlib.Core.Path.{◌≡◌, refl, sym, ap, subst, ◌∙◌}
use mathlib.Core.Bool.{Bool, true, false, cond, not, ◌&&◌, ◌||◌, true≢false, false≢true}
use mathlib.Core.Logic.{◌⊎◌, inl, inr, ◌≢◌, ◌↔◌}
use mathlib.Core.List.{List}
use Prim.Native.Nat.{ℕ}
use native.Mathlib.Omega.{arith}
use borrow.Author.Tests.{not-true}
use Rattle.definitions.specs.Basics.{refused}
use Rattle.definitions.specs.Bytes.{Records}
use Rattle.definitions.specs.Links.{Edge, KeepsAll, Respects, edges, members}
use Rattle.definitions.specs.Waits.{needs_waits, serialized}
use Rattle.definitions.specs.Answers.{closes_circle, infeasible, unserializable, judged, judge_edges, count_of, leasts_of, edges_of, serialized_of}
use Rattle.laws.proofs.Bools.{and_split, and_join, not_passing, both_ways, or_left, or_right, or_split}
use Rattle.laws.proofs.Negations.{fails_unless, passes_unless}
use Rattle.laws.proofs.Outcomes.{refused_same}
use Rattle.theory.specs.Graphs.{Schedule}
use Rattle.theory.proofs.WaitLists.{needs_waits_iff}
use Rattle.demands.specs.Demands.{IsSheet, WellFormed, SomeListLeavesNone, ForwardCircle, Circle, Sound, WaitsClash, circle, no_times, JudgedFor, links_and_waits}
use Rattle.demands.proofs.Reading.{Fits, fits_of}
use Rattle.demands.proofs.Edges.{keeps_schedule, schedule_keeps, sheet_entered, sheet_shape}
use Rattle.demands.proofs.Judging.{Passes, judge_8, judge_12, judge_28, judge_given, judge_never_9, judged_edges}
use Rattle.demands.proofs.Meaning.{meant_for, waits_shape}
use Rattle.demands.proofs.Sheets.{is_10, not_8, passes_well, serialized_rooted, unneeded_serializable}
use Rattle.demands.proofs.Formed.{formed_rooted, judged_10, judged_11, not_judged_10, not_judged_11}
use Rattle.demands.proofs.DelayLists.{least_durations, least_extras}
use Rattle.demands.proofs.Impossibility.{impossible_for}
use Rattle.demands.proofs.OurStarts.{edges_with_waits}

module _ (s : List ℕ) (allow : Bool) (q : Records) (sheet : IsSheet s q) where
  abbrev n : ℕ
  n = count_of q

  abbrev ls : ℕ → ℕ
  ls = leasts_of q

  abbrev es : List Edge
  es = edges_of q

  fits : Fits q
  fits = fits_of sheet

  on_edges : judged s allow ≡ judge_edges n ls es allow
  on_edges = judged_edges s sheet.reads allow

  circled : (closes_circle n es ≡ true) ↔ Circle q
  circled = (meant_for fits).unwaited.circle

  formed_iff : WellFormed s q ↔ (¬ Circle q)
  formed_iff =
      let c = fails_unless (closes_circle n es) circled in
      (λ f. c.0 f.no_circle, λ r. record { sheet = sheet; no_circle = c.1 r })

  -- None of 8, 10 and 11 applies exactly if the sheet is well-formed and no list leaves none.
  passes_iff : Passes n es ↔ (WellFormed s q × (¬ SomeListLeavesNone q))
  passes_iff = (λ P. (formed P, λ L. refuse P ((impossible_for s allow q (formed P)).impossible.1 L)), λ r. passes r.0 r.1)
    where
      formed : Passes n es → WellFormed s q
      formed P = record { sheet = sheet; no_circle = P.no_circle }

      refuse : Passes n es → (judged s allow ≡ refused 10) ⊎ (judged s allow ≡ refused 11) → ⊥
      refuse P (inl h) = both_ways ((judged_10 (formed P) allow).0 h) P.feasible
      refuse P (inr h) = both_ways ((judged_11 (formed P) allow).0 h).1 P.consistent

      passes : WellFormed s q → ¬ SomeListLeavesNone q → Passes n es
      passes f none =
          let I = (impossible_for s allow q f).impossible in
          let feasible = not_judged_10 f allow (λ h. none (I.0 (inl h))) in
          record { no_circle = f.no_circle; feasible = feasible; consistent = not_judged_11 f allow feasible (λ h. none (I.0 (inr h))) }

  unneeded : (needs_waits n es ≡ false) ↔ Sound q
  unneeded = needs_waits_iff (sheet_shape fits)

  needed : (needs_waits n es ≡ true) ↔ (¬ Sound q)
  needed = passes_unless (needs_waits n es) unneeded

  -- What is refused with another number than 8 is well-formed.
  formed_by : {k : ℕ} → 8 ≢ k → judge_edges n ls es allow ≡ refused k → closes_circle n es ≡ false
  formed_by {k} not_8 h = not_passing (closes_circle n es) (λ t. not_8 (refused_same (sym ((judge_8 n ls es allow).1 t) ∙ h)))

  pub refused_formed : {k : ℕ} → 8 ≢ k → judged s allow ≡ refused k → WellFormed s q
  refused_formed a h = record { sheet = sheet; no_circle = formed_by a (sym on_edges ∙ h) }

  -- 28: by the tests of circles and of 10, on the sheet with its waits.
  clash_iff : WellFormed s q → (unserializable n ls es ≡ true) ↔ WaitsClash q
  unfolding unserializable serialized_of
  clash_iff f = (λ h. found (or_split (closes_circle n (serialized n ls es)) (infeasible n (serialized n ls es)) h), test)
    where
      ten : (infeasible n (serialized n ls es) ≡ true) ↔ ((t : ℕ → ℕ) → ¬ Schedule (members (serialized n ls es)) (λ a. 0) t)
      ten = is_10 fits.some (waits_shape fits) (serialized_rooted ls fits.some (sheet_shape fits) (formed_rooted f))

      respects : Respects q.steps ls
      respects = (least_durations q).respects

      kept : (t : ℕ → ℕ) → KeepsAll q.steps (links_and_waits q) ls t ↔ Schedule (members (serialized n ls es)) (λ a. 0) t
      kept t =
          subst
          (λ (l : List Edge). KeepsAll q.steps (links_and_waits q) ls t ↔ Schedule (members l) (λ a. 0) t)
          (edges_with_waits fits)
          (subst
          (λ (x : ℕ → ℕ). KeepsAll q.steps (links_and_waits q) ls t ↔ Schedule (members (edges q.steps (links_and_waits q))) x t)
          (least_extras q)
          (keeps_schedule q.steps ls t respects (links_and_waits q), schedule_keeps q.steps ls t respects (links_and_waits q)))

      around : (closes_circle n (serialized n ls es) ≡ true) ↔ ForwardCircle (serialized n ls es)
      around = (meant_for fits).with_waits.circle

      found : (closes_circle n (serialized n ls es) ≡ true) ⊎ (infeasible n (serialized n ls es) ≡ true) → WaitsClash q
      found (inl h) = circle (around.0 h)
      found (inr h) = no_times (λ t k. ten.0 h t ((kept t).0 k))

      test : WaitsClash q → (closes_circle n (serialized n ls es) || infeasible n (serialized n ls es)) ≡ true
      test (circle r) = or_left (infeasible n (serialized n ls es)) (around.1 r)
      test (no_times none) = or_right (closes_circle n (serialized n ls es)) (ten.1 (λ t k. none t ((kept t).1 k)))

  twenty_eight : (judge_edges n ls es allow ≡ refused 28) ↔ (Passes n es × (unserializable n ls es ≡ true))
  twenty_eight = (
    λ h. let f = formed_by (λ e. omega arith) h in
        let r = (judge_28 n ls es allow f).0 h in
        (record { no_circle = f; feasible = r.0; consistent = r.1 }, r.2),
    λ r. (judge_28 n ls es allow r.0.no_circle).1 (r.0.feasible, r.0.consistent, r.1),
  )

  -- A sheet that needs no waits passes 28.
  unneeded_passes : Passes n es → needs_waits n es ≡ false → unserializable n ls es ≡ false
  unneeded_passes P h = unneeded_serializable ls (passes_well fits.some (sheet_shape fits) (sheet_entered fits) P) (not_8 fits.some (sheet_shape fits) P.no_circle) h

  twelve : (judge_edges n ls es allow ≡ refused 12) ↔ (Passes n es × (unserializable n ls es ≡ false) × (needs_waits n es ≡ true) × (allow ≡ false))
  twelve = (
    λ h. let f = formed_by (λ e. omega arith) h in
        let r = (judge_12 n ls es allow f).0 h in
        let w = and_split (needs_waits n es) (not allow) r.3 in
        (record { no_circle = f; feasible = r.0; consistent = r.1 }, r.2, w.0, not-true allow w.1),
    λ r. (judge_12 n ls es allow r.0.no_circle).1 (r.0.feasible, r.0.consistent, r.1, and_join r.2 (ap not r.3)),
  )

  verdict_bool : (b a : Bool) → (((b && not a) ≡ false) × (cond {A = ℕ} b 1 0 ≡ 1)) ↔ ((b ≡ true) × (a ≡ true))
  verdict_bool true true = (λ h. (refl, refl), λ h. (refl, refl))
  verdict_bool true false = (λ h. absurd (true≢false h.0), λ h. absurd (false≢true h.1))
  verdict_bool false a = (λ h. absurd (omega (arith, h.1)), λ h. absurd (false≢true h.0))

  verdict_none : (b a : Bool) → (((b && not a) ≡ false) × (cond {A = ℕ} b 1 0 ≡ 0)) ↔ (b ≡ false)
  verdict_none true a = (λ h. absurd (omega (arith, h.1)), λ h. absurd (true≢false h))
  verdict_none false a = (λ h. refl, λ h. (refl, refl))

  pub judged_for : JudgedFor s allow q
  judged_for =
      let given-0 = judge_given n ls es allow 0 in
      let given-1 = judge_given n ls es allow 1 in
      let none = verdict_none (needs_waits n es) allow in
      let some = verdict_bool (needs_waits n es) allow in
      record {
        refused_8 = (λ h. circled.0 ((judge_8 n ls es allow).0 (sym on_edges ∙ h)), λ x. on_edges ∙ (judge_8 n ls es allow).1 (circled.1 x));
        never_9 = λ h. judge_never_9 n ls es allow (sym on_edges ∙ h);
        reached = λ none. formed_rooted (formed_iff.1 none);
        well_formed = formed_iff;
        refused_28 = (
          λ h. let a = twenty_eight.0 (sym on_edges ∙ h) in let p = passes_iff.0 a.0 in (p.0, p.1, (clash_iff p.0).0 a.1),
          λ x. on_edges ∙ twenty_eight.1 (passes_iff.1 (x.0, x.1), (clash_iff x.0).1 x.2),
        );
        refused_12 = (
          λ h. let a = twelve.0 (sym on_edges ∙ h) in let p = passes_iff.0 a.0 in (p.0, p.1, (clear p.0).0 a.1, needed.0 a.2, a.3),
          λ x. on_edges ∙ twelve.1 (passes_iff.1 (x.0, x.1), (clear x.0).1 x.2, needed.1 x.3, x.4),
        );
        verdict_0 = (
          λ h. let a = given-0.0 (sym on_edges ∙ h) in let p = passes_iff.0 a.0 in (p.0, p.1, unneeded.0 (none.0 (a.2, a.3))),
          λ x. let w = unneeded.1 x.2 in let P = passes_iff.1 (x.0, x.1) in let z = none.1 w in on_edges ∙ given-0.1 (P, unneeded_passes P w, z.0, z.1),
        );
        verdict_1 = (
          λ h. let a = given-1.0 (sym on_edges ∙ h) in let p = passes_iff.0 a.0 in let z = some.0 (a.2, a.3) in (p.0, p.1, (clear p.0).0 a.1, needed.0 z.0, z.1),
          λ x. let z = some.1 (needed.1 x.3, x.4) in on_edges ∙ given-1.1 (passes_iff.1 (x.0, x.1), (clear x.0).1 x.2, z.0, z.1),
        );
      }
    where
      clear : WellFormed s q → (unserializable n ls es ≡ false) ↔ (¬ WaitsClash q)
      clear f = fails_unless (unserializable n ls es) (clash_iff f)
