-- What each answer of judging says of the tests behind it, and the other way round: the refusals stand in a row, and each is given exactly if its test passes and no earlier one does.
use mathlib.Core.Path.{◌≡◌, ap}
use mathlib.Core.Bool.{Bool, true, false, cond, not, ◌&&◌, ◌||◌}
use mathlib.Core.Logic.{◌⊎◌, inl, inr, ◌≢◌, ◌↔◌}
use mathlib.Core.List.{List}
use Prim.Native.Nat.{ℕ, ◌<◌}
use native.Mathlib.Omega.{arith}
use Rattle.definitions.specs.Basics.{Outcome, given, refused, refuse_if}
use Rattle.definitions.specs.Bytes.{Records, read}
use Rattle.definitions.specs.Links.{Edge}
use Rattle.definitions.specs.Waits.{needs_waits}
use Rattle.definitions.specs.Answers.{closes_circle, infeasible, inconsistent, unserializable, judge_edges, count_of, edges_of, judge_records, judged, leasts_of}
use Rattle.laws.proofs.Bools.{bool_cases, both_ways, or_left, or_right, or_split}
use Rattle.laws.proofs.Outcomes.{given_not_refused, given_same, refuse_own, refuse_other, refuse_given, refuse_never, when_given_by}

-- None of 8, 10 and 11 applies.
pub record Passes (n : ℕ) (es : List Edge) : Type 0 where
  pub no_circle : closes_circle n es ≡ false
  pub feasible : infeasible n es ≡ false
  pub consistent : inconsistent n es ≡ false

-- "Impossible means 10 or 11."
abbrev pub TenOrEleven : Outcome ℕ → Type 0
TenOrEleven o = (o ≡ refused 10) ⊎ (o ≡ refused 11)

module _ (n : ℕ) (least : ℕ → ℕ) (es : List Edge) (allow : Bool) where
  abbrev waits_refused : Bool
  waits_refused = needs_waits n es && not allow

  abbrev last : Outcome ℕ
  last = given (cond (needs_waits n es) 1 0)

  abbrev from_12 : Outcome ℕ
  from_12 = refuse_if waits_refused 12 last

  abbrev from_28 : Outcome ℕ
  from_28 = refuse_if (unserializable n least es) 28 from_12

  abbrev from_11 : Outcome ℕ
  from_11 = refuse_if (inconsistent n es) 11 from_28

  abbrev from_10 : Outcome ℕ
  from_10 = refuse_if (infeasible n es) 10 from_11

  -- What stands behind a refusal never gives its number.
  never_12 : {k : ℕ} → k < 12 → from_12 ≢ refused k
  never_12 h = refuse_never waits_refused 12 last (λ e. omega arith) (λ e. given_not_refused e)

  never_28 : {k : ℕ} → k < 12 → from_28 ≢ refused k
  never_28 h = refuse_never (unserializable n least es) 28 from_12 (λ e. omega arith) (never_12 h)

  never_11 : {k : ℕ} → k < 11 → from_11 ≢ refused k
  never_11 h = refuse_never (inconsistent n es) 11 from_28 (λ e. omega arith) (never_28 (omega arith))

  never_10 : {k : ℕ} → k < 10 → from_10 ≢ refused k
  never_10 h = refuse_never (infeasible n es) 10 from_11 (λ e. omega arith) (never_11 (omega arith))

  -- Judging gives no number below 8, nor 9, nor one above 12 but 28.
  pub judge_never_past : {k : ℕ} → 12 < k → 28 ≢ k → judge_edges n least es allow ≢ refused k
  unfolding judge_edges
  judge_never_past h z =
      refuse_never (closes_circle n es) 8 from_10 (λ e. omega arith)
      (refuse_never (infeasible n es) 10 from_11 (λ e. omega arith)
      (refuse_never (inconsistent n es) 11 from_28 (λ e. omega arith)
      (refuse_never (unserializable n least es) 28 from_12 z
      (refuse_never waits_refused 12 last (λ e. omega arith) (λ e. given_not_refused e)))))

  pub judge_never : {k : ℕ} → k < 8 → judge_edges n least es allow ≢ refused k
  unfolding judge_edges
  judge_never h = refuse_never (closes_circle n es) 8 from_10 (λ e. omega arith) (never_10 (omega arith))

  pub judge_never_9 : judge_edges n least es allow ≢ refused 9
  unfolding judge_edges
  judge_never_9 = refuse_never (closes_circle n es) 8 from_10 (λ e. omega arith) (never_10 (omega arith))

  pub judge_8 : (judge_edges n least es allow ≡ refused 8) ↔ (closes_circle n es ≡ true)
  unfolding judge_edges
  judge_8 = refuse_own (closes_circle n es) 8 from_10 (never_10 (omega arith))

  -- Behind 8, behind 10, and so on.
  module _ (no_circle : closes_circle n es ≡ false) where
    past_8 : {k : ℕ} → 8 ≢ k → (judge_edges n least es allow ≡ refused k) ↔ (from_10 ≡ refused k)
    unfolding judge_edges
    past_8 h = let r = refuse_other (closes_circle n es) 8 from_10 h in (λ e. (r.0 e).1, λ e. r.1 (no_circle, e))

    pub judge_10 : (judge_edges n least es allow ≡ refused 10) ↔ (infeasible n es ≡ true)
    judge_10 =
        let p = past_8 {k = 10} (λ e. omega arith) in
        let r = refuse_own (infeasible n es) 10 from_11 (never_11 (omega arith)) in
        (λ h. r.0 (p.0 h), λ h. p.1 (r.1 h))

    past_10 : {k : ℕ} → 8 ≢ k → 10 ≢ k → (judge_edges n least es allow ≡ refused k) ↔ ((infeasible n es ≡ false) × (from_11 ≡ refused k))
    past_10 h l =
        let p = past_8 h in
        let r = refuse_other (infeasible n es) 10 from_11 l in
        (λ e. r.0 (p.0 e), λ e. p.1 (r.1 e))

    pub judge_11 : (judge_edges n least es allow ≡ refused 11) ↔ ((infeasible n es ≡ false) × (inconsistent n es ≡ true))
    judge_11 =
        let p = past_10 {k = 11} (λ e. omega arith) (λ e. omega arith) in
        let r = refuse_own (inconsistent n es) 11 from_28 (never_28 (omega arith)) in
        (λ h. let a = p.0 h in (a.0, r.0 a.1), λ h. p.1 (h.0, r.1 h.1))

    -- 10 or 11: one of the two tests passes.
    pub judge_impossible : TenOrEleven (judge_edges n least es allow) ↔ ((infeasible n es || inconsistent n es) ≡ true)
    judge_impossible = (found, λ h. test (bool_cases (infeasible n es)) (or_split (infeasible n es) (inconsistent n es) h))
      where
        found : TenOrEleven (judge_edges n least es allow) → (infeasible n es || inconsistent n es) ≡ true
        found (inl h) = or_left (inconsistent n es) (judge_10.0 h)
        found (inr h) = or_right (infeasible n es) (judge_11.0 h).1

        test : (infeasible n es ≡ true) ⊎ (infeasible n es ≡ false) → (infeasible n es ≡ true) ⊎ (inconsistent n es ≡ true) → TenOrEleven (judge_edges n least es allow)
        test (inl t) h = inl (judge_10.1 t)
        test (inr f) (inl t) = absurd (both_ways t f)
        test (inr f) (inr t) = inr (judge_11.1 (f, t))

    past_11 : {k : ℕ} → 8 ≢ k → 10 ≢ k → 11 ≢ k → (judge_edges n least es allow ≡ refused k) ↔ ((infeasible n es ≡ false) × (inconsistent n es ≡ false) × (from_28 ≡ refused k))
    past_11 h l m =
        let p = past_10 h l in
        let r = refuse_other (inconsistent n es) 11 from_28 m in
        (λ e. let a = p.0 e in let b = r.0 a.1 in (a.0, b.0, b.1), λ e. p.1 (e.0, r.1 (e.1, e.2)))

    pub judge_28 : (judge_edges n least es allow ≡ refused 28) ↔ ((infeasible n es ≡ false) × (inconsistent n es ≡ false) × (unserializable n least es ≡ true))
    judge_28 =
        let p = past_11 {k = 28} (λ e. omega arith) (λ e. omega arith) (λ e. omega arith) in
        let r = refuse_own (unserializable n least es) 28 from_12 (refuse_never waits_refused 12 last (λ e. omega arith) (λ e. given_not_refused e)) in
        (λ h. let a = p.0 h in (a.0, a.1, r.0 a.2), λ h. p.1 (h.0, h.1, r.1 h.2))

    pub judge_12 : (judge_edges n least es allow ≡ refused 12) ↔ ((infeasible n es ≡ false) × (inconsistent n es ≡ false) × (unserializable n least es ≡ false) × (waits_refused ≡ true))
    judge_12 =
        let p = past_11 {k = 12} (λ e. omega arith) (λ e. omega arith) (λ e. omega arith) in
        let r = refuse_other (unserializable n least es) 28 from_12 {l = 12} (λ e. omega arith) in
        let t = refuse_own waits_refused 12 last (λ e. given_not_refused e) in
        (λ h. let a = p.0 h in let b = r.0 a.2 in (a.0, a.1, b.0, t.0 b.1), λ h. p.1 (h.0, h.1, r.1 (h.2, t.1 h.3)))

  -- Accepted: no test passed, and the verdict says whether waits are needed.
  pub judge_given : (v : ℕ) → (judge_edges n least es allow ≡ given v) ↔ (Passes n es × (unserializable n least es ≡ false) × (waits_refused ≡ false) × (cond (needs_waits n es) 1 0 ≡ v))
  unfolding judge_edges
  judge_given v =
      let r8 = refuse_given (closes_circle n es) 8 from_10 v in
      let r10 = refuse_given (infeasible n es) 10 from_11 v in
      let r11 = refuse_given (inconsistent n es) 11 from_28 v in
      let r28 = refuse_given (unserializable n least es) 28 from_12 v in
      let r12 = refuse_given waits_refused 12 last v in (
        λ h. let a = r8.0 h in let c = r10.0 a.1 in let d = r11.0 c.1 in let f = r28.0 d.1 in let e = r12.0 f.1 in (record { no_circle = a.0; feasible = c.0; consistent = d.0 }, f.0, e.0, given_same e.1),
        λ h. r8.1 (h.0.no_circle, r10.1 (h.0.feasible, r11.1 (h.0.consistent, r28.1 (h.1, r12.1 (h.2, ap given h.3))))),
      )

-- Judging the bytes of a sheet is judging its edges.
pub judged_edges : (s : List ℕ) {q : Records} → read s ≡ given q → (allow : Bool) → judged s allow ≡ judge_edges (count_of q) (leasts_of q) (edges_of q) allow
unfolding judged judge_records
judged_edges s e allow = when_given_by (λ q. judge_records q allow) e
