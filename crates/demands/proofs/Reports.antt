-- Request L14, the call: its refusals stand in a row, and what it reports beside its verdict.
use mathlib.Core.Path.{◌≡◌, refl, sym, ap, ◌∙◌}
use mathlib.Core.Bool.{Bool, true, false, not}
use mathlib.Core.Logic.{◌⊎◌, inl, inr, ◌≢◌, ◌↔◌}
use mathlib.Core.List.{List}
use Prim.Native.Nat.{ℕ}
use native.Mathlib.Omega.{arith}
use lib.ListN.{length}
use borrow.Author.Tests.{not-true, not-false}
use Rattle.definitions.specs.Basics.{Outcome, given, refused, refuse_if}
use Rattle.definitions.specs.Bytes.{Records, read}
use Rattle.definitions.specs.Answers.{closes_circle, count_of, edges_of, too_short, written}
use Rattle.definitions.specs.Clashes.{impossible, few, few_verdict, few_read, few_answer}
use Rattle.laws.proofs.Negations.{fails_unless}
use Rattle.laws.proofs.Outcomes.{given_not_refused, given_same, refused_same, refuse_own, refuse_other, refuse_given, refuse_never}
use Rattle.demands.specs.Demands.{FromReading, IsSheet, WellFormed, SomeListLeavesNone}
use Rattle.demands.specs.Clashes.{FewCall, FewExactly, FromFew}
use Rattle.demands.proofs.Reading.{fits_of, read_most}
use Rattle.demands.proofs.Meaning.{meant_for}
use Rattle.demands.proofs.Formed.{formed_regular}
use Rattle.demands.proofs.Impossibility.{impossible_for}
use Rattle.demands.proofs.Answering.{short_iff, long_iff}
use Rattle.demands.proofs.Clashes.{impossible_lists}

-- ## A sheet that has been read

module _ (s list : List ℕ) (q : Records) (sheet : IsSheet s q) where
  abbrev circles : Bool
  circles = closes_circle (count_of q) (edges_of q)

  abbrev short : Bool
  short = too_short list (length (few q))

  -- Behind 31, and behind 8.
  abbrev from_14 : Outcome ℕ
  from_14 = refuse_if short 14 (given (length (few q)))

  abbrev from_31 : Outcome ℕ
  from_31 = refuse_if (not (impossible q)) 31 from_14

  verdict_is : (few_answer s list).verdict ≡ refuse_if circles 8 from_31
  unfolding few_answer few_read few_verdict
  verdict_is = ap (λ (o : Outcome Records). (few_read o list).verdict) sheet.reads

  numbers_are : (few_answer s list).numbers ≡ written (few_answer s list).verdict (few q) list
  unfolding few_answer few_read
  numbers_are = rw sheet.reads

  formed_by : circles ≡ false → WellFormed s q
  formed_by h = record { sheet = sheet; no_circle = h }

  lists : WellFormed s q → (impossible q ≡ true) ↔ SomeListLeavesNone q
  lists formed = impossible_lists (formed_regular formed)

  no_lists : WellFormed s q → (impossible q ≡ false) ↔ (¬ SomeListLeavesNone q)
  no_lists formed = fails_unless (impossible q) (lists formed)

  never_14 : {k : ℕ} → 14 ≢ k → from_14 ≢ refused k
  never_14 apart = refuse_never short 14 (given (length (few q))) apart (λ e. given_not_refused e)

  eight : (refuse_if circles 8 from_31 ≡ refused 8) ↔ (circles ≡ true)
  eight = refuse_own circles 8 from_31 (refuse_never (not (impossible q)) 31 from_14 (λ e. omega arith) (never_14 (λ e. omega arith)))

  thirty_one : (refuse_if circles 8 from_31 ≡ refused 31) ↔ ((circles ≡ false) × (impossible q ≡ false))
  thirty_one =
      let r = refuse_other circles 8 from_31 {l = 31} (λ e. omega arith) in
      let t = refuse_own (not (impossible q)) 31 from_14 (never_14 (λ e. omega arith)) in
      (λ h. let a = r.0 h in (a.0, not-true (impossible q) (t.0 a.1)), λ x. r.1 (x.0, t.1 (ap not x.1)))

  fourteen : (refuse_if circles 8 from_31 ≡ refused 14) ↔ ((circles ≡ false) × (impossible q ≡ true) × (short ≡ true))
  fourteen =
      let r = refuse_other circles 8 from_31 {l = 14} (λ e. omega arith) in
      let t = refuse_other (not (impossible q)) 31 from_14 {l = 14} (λ e. omega arith) in
      let u = refuse_own short 14 (given (length (few q))) (λ e. given_not_refused e) in
      (λ h. let a = r.0 h in let b = t.0 a.1 in (a.0, not-false (impossible q) b.0, u.0 b.1), λ x. r.1 (x.0, t.1 (ap not x.1, u.1 x.2)))

  count_given : (k : ℕ) → (refuse_if circles 8 from_31 ≡ given k) ↔ ((circles ≡ false) × (impossible q ≡ true) × (short ≡ false) × (length (few q) ≡ k))
  count_given k =
      let r = refuse_given circles 8 from_31 k in
      let t = refuse_given (not (impossible q)) 31 from_14 k in
      let u = refuse_given short 14 (given (length (few q))) k in (
        λ h. let a = r.0 h in let b = t.0 a.1 in let c = u.0 b.1 in (a.0, not-false (impossible q) b.0, c.0, given_same c.1),
        λ x. r.1 (x.0, t.1 (ap not x.1, u.1 (x.2, ap given x.3))),
      )

  few_call : FewCall s q list
  unfolding written
  few_call = record {
    refused_8 = let c = (meant_for (fits_of sheet)).unwaited.circle in (λ h. c.0 (eight.0 (sym verdict_is ∙ h)), λ x. verdict_is ∙ eight.1 (c.1 x));
    refused_31 = no_list;
    not_10_11 = λ allow. (
      λ h. let a = no_list.0 h in let I = (impossible_for s allow q a.0).impossible in (a.0, λ e. a.1 (I.0 (inl e)), λ e. a.1 (I.0 (inr e))),
      λ x. no_list.1 (x.0, λ L. either x.1 x.2 ((impossible_for s allow q x.0).impossible.1 L)),
    );
    refused_14 = (
      λ h. let a = fourteen.0 (sym verdict_is ∙ h) in let f = formed_by a.0 in (f, (lists f).0 a.1, (short_iff list (length (few q))).0 a.2),
      λ x. verdict_is ∙ fourteen.1 (x.0.no_circle, (lists x.0).1 x.1, (short_iff list (length (few q))).1 x.2),
    );
    reported = λ k. (
      λ h. let a = (count_given k).0 (sym verdict_is ∙ h) in let f = formed_by a.0 in (f, (lists f).0 a.1, sym a.3, omega (arith, a.3, (long_iff list (length (few q))).0 a.2)),
      λ x. verdict_is ∙ (count_given k).1 (x.0.no_circle, (lists x.0).1 x.1, (long_iff list (length (few q))).1 (omega (arith, x.2, x.3)), sym x.2),
    );
    numbers = λ k h. numbers_are ∙ ap (λ (o : Outcome ℕ). written o (few q) list) h;
  }
    where
      no_list : ((few_answer s list).verdict ≡ refused 31) ↔ (WellFormed s q × (¬ SomeListLeavesNone q))
      no_list = (
        λ h. let a = thirty_one.0 (sym verdict_is ∙ h) in let f = formed_by a.0 in (f, (no_lists f).0 a.1),
        λ x. verdict_is ∙ thirty_one.1 (x.0.no_circle, (no_lists x.0).1 x.1),
      )

      either : {a b : Type 0} → ¬ a → ¬ b → a ⊎ b → ⊥
      either f g (inl x) = f x
      either f g (inr x) = g x

-- ## Any bytes

-- A row of three refusals gives no others.
three_refusals : (a b c : Bool) (v : ℕ) {k : ℕ} → refuse_if a 8 (refuse_if b 31 (refuse_if c 14 (given v))) ≡ refused k → (k ≡ 8) ⊎ ((k ≡ 31) ⊎ (k ≡ 14))
unfolding refuse_if
three_refusals true b c v h = inl (sym (refused_same h))
three_refusals false true c v h = inr (inl (sym (refused_same h)))
three_refusals false false true v h = inr (inr (sym (refused_same h)))
three_refusals false false false v h = absurd (given_not_refused h)

module _ (list : List ℕ) (k : ℕ) where
  sheet_refusals : (q : Records) → (few_read (given q) list).verdict ≡ refused k → (k ≡ 8) ⊎ ((k ≡ 31) ⊎ (k ≡ 14))
  unfolding few_read few_verdict
  sheet_refusals q h = three_refusals (closes_circle (count_of q) (edges_of q)) (not (impossible q)) (too_short list (length (few q))) (length (few q)) h

  not_reading : (k ≡ 8) ⊎ ((k ≡ 31) ⊎ (k ≡ 14)) → FromReading k → ⊥
  not_reading (inl e) (inl b) = omega arith
  not_reading (inl e) (inr b) = omega arith
  not_reading (inr (inl e)) (inl b) = omega arith
  not_reading (inr (inl e)) (inr b) = omega arith
  not_reading (inr (inr e)) (inl b) = omega arith
  not_reading (inr (inr e)) (inr b) = omega arith

  as_read : (o : Outcome Records) → (few_read o list).verdict ≡ refused k → FromReading k → o ≡ refused k
  unfolding few_read
  as_read (refused l) h b = ap refused (refused_same h)
  as_read (given q) h b = absurd (not_reading (sheet_refusals q h) b)

  left_as_lent : (o : Outcome Records) → (few_read o list).verdict ≡ refused k → (few_read o list).numbers ≡ list
  unfolding few_read written
  left_as_lent (refused l) h = refl
  left_as_lent (given q) h = ap (λ (o : Outcome ℕ). written o (few q) list) h

  refusals : (o : Outcome Records) → ((l : ℕ) → o ≡ refused l → FromReading l) → (few_read o list).verdict ≡ refused k → FromFew k
  unfolding few_read
  refusals (refused l) most h = inl (most k (ap refused (refused_same h)))
  refusals (given q) most h = inr (sheet_refusals q h)

pub few_calls : FewExactly
unfolding few_answer few_read
few_calls = record {
  unread = λ s list k bytes. (λ h. (ap (λ (o : Outcome Records). (few_read o list).verdict) h, read_most s k bytes h), λ r. as_read list k (read s) r.0 r.1);
  sheets = few_call;
  no_others = λ s list k bytes h. refusals list k (read s) (λ l e. read_most s l bytes e) h;
  untouched = λ s list k h. left_as_lent list k (read s) h;
}
