-- Request L5, the call: 19 and 14 stand behind what judging refuses.
use mathlib.Core.Path.{◌≡◌, refl, sym, ap, ◌∙◌}
use mathlib.Core.Bool.{Bool, true, false, ◌&&◌, ◌||◌, false≢true, true≢false}
use mathlib.Core.Logic.{◌⊎◌, inl, inr, ◌≢◌, ◌↔◌}
use mathlib.Core.List.{List, ◌++◌}
use Prim.Native.Nat.{ℕ, ◌≤◌, ◌<◌}
use native.Mathlib.Omega.{arith}
use lib.Dec.{leb}
use lib.ListN.{length, drop}
use borrow.Author.Tests.{leb-true, le-leb}
use Rattle.definitions.specs.Limits.{register_entries}
use Rattle.definitions.specs.Basics.{Outcome, given, refused, refuse_if, when_given}
use Rattle.definitions.specs.Bytes.{Records, read}
use Rattle.definitions.specs.Answers.{count_of, edges_of, judge_records, judged, leasts_of, too_short, written}
use Rattle.definitions.specs.Price.{Price, Priced, largest_offset, open_at, plan_of, price_answer, price_judged, price_of, price_read, price_records, price_verdict, price_when, too_large}
use Rattle.laws.proofs.Bools.{and_join, and_split, both_ways, not_passing, or_left, or_neither, or_right, or_split}
use Rattle.laws.proofs.Outcomes.{given_not_refused, refused_same, when_given_by}
use Rattle.laws.proofs.Tests.{any_below_by, any_below_has, tabulate_length}
use Rattle.demands.specs.Demands.{Accepted, FromReading, IsSheet, sheet_decides, sheet_offset}
use Rattle.demands.specs.Pricing.{LargestOffset, PriceCall, PriceExactly, SomeLarge}
use Rattle.demands.proofs.Answering.{long_iff, short_iff}
use Rattle.demands.proofs.Judging.{judge_never, judge_never_past}
use Rattle.demands.proofs.Pricing.{largest_for}
use Rattle.demands.proofs.Reading.{read_most}

-- ## A row of two refusals behind an outcome

abbrev behind : Outcome ℕ → Bool → Bool → Outcome ℕ
behind o large short = when_given (when_given o (λ v. refuse_if large 19 (given v))) (λ v. refuse_if short 14 (given v))

behind_19 : (o : Outcome ℕ) (large short : Bool) → o ≢ refused 19 → (behind o large short ≡ refused 19) ↔ ((v : ℕ) × (o ≡ given v) × (large ≡ true))
unfolding when_given refuse_if
behind_19 (refused k) large short never = (λ h. absurd (never h), λ r. absurd (given_not_refused (sym r.1)))
behind_19 (given v) true short never = (λ h. (v, refl, refl), λ r. refl)
behind_19 (given v) false true never = (λ h. absurd (let e = refused_same h in omega arith), λ r. absurd (false≢true r.2))
behind_19 (given v) false false never = (λ h. absurd (given_not_refused h), λ r. absurd (false≢true r.2))

behind_14 : (o : Outcome ℕ) (large short : Bool) → o ≢ refused 14 → (behind o large short ≡ refused 14) ↔ ((v : ℕ) × (o ≡ given v) × (large ≡ false) × (short ≡ true))
unfolding when_given refuse_if
behind_14 (refused k) large short never = (λ h. absurd (never h), λ r. absurd (given_not_refused (sym r.1)))
behind_14 (given v) true short never = (λ h. absurd (let e = refused_same h in omega arith), λ r. absurd (true≢false r.2))
behind_14 (given v) false true never = (λ h. (v, refl, refl, refl), λ r. refl)
behind_14 (given v) false false never = (λ h. absurd (given_not_refused h), λ r. absurd (false≢true r.3))

behind_given : (o : Outcome ℕ) (large short : Bool) (v : ℕ) → (behind o large short ≡ given v) ↔ ((o ≡ given v) × (large ≡ false) × (short ≡ false))
unfolding when_given refuse_if
behind_given (refused k) large short v = (λ h. absurd (given_not_refused (sym h)), λ r. absurd (given_not_refused (sym r.0)))
behind_given (given w) true short v = (λ h. absurd (given_not_refused (sym h)), λ r. absurd (true≢false r.1))
behind_given (given w) false true v = (λ h. absurd (given_not_refused (sym h)), λ r. absurd (true≢false r.2))
behind_given (given w) false false v = (λ h. (h, refl, refl), λ r. r.0)

behind_other : (o : Outcome ℕ) (large short : Bool) (k : ℕ) → behind o large short ≡ refused k → (o ≡ refused k) ⊎ ((k ≡ 19) ⊎ (k ≡ 14))
unfolding when_given refuse_if
behind_other (refused l) large short k h = inl h
behind_other (given v) true short k h = inr (inl (sym (refused_same h)))
behind_other (given v) false true k h = inr (inr (sym (refused_same h)))
behind_other (given v) false false k h = absurd (given_not_refused h)

behind_refused : (o : Outcome ℕ) (large short : Bool) (k : ℕ) → o ≡ refused k → behind o large short ≡ refused k
unfolding when_given
behind_refused o large short k h = rw h

-- A step has one largest offset: neither of two is above the other.
largest_most : {q : Records} {a x y : ℕ} → LargestOffset q a x → LargestOffset q a y → x ≤ y
largest_most {q} {a} {x} {y} X Y = go X.attained
  where
    go : ((v : ℕ) × (v < count_of q) × (sheet_decides q a v ≡ true) × (sheet_offset q a v ≡ x)) ⊎ (((v : ℕ) → v < count_of q → sheet_decides q a v ≡ false) × (x ≡ 0)) → x ≤ y
    go (inl r) = omega (arith, r.3, Y.bound r.0 r.1 r.2)
    go (inr r) = omega (arith, r.1)

-- ## A sheet that has been read

module _ (entries s : List ℕ) (allow : Bool) (q : Records) (registers comparisons : List ℕ) (sheet : IsSheet s q) where
  abbrev pub large : Bool
  large = too_large (open_at q) (count_of q) (plan_of q)

  abbrev short : Bool
  short = too_short registers (count_of q) || too_short comparisons (count_of q)

  answer_is : price_answer entries s allow registers comparisons ≡ price_when (price_verdict q allow registers comparisons) (price_records entries q) registers comparisons
  unfolding price_answer price_read
  answer_is = rw sheet.reads

  when_verdict : (o : Outcome ℕ) (p : Price) → (price_when o p registers comparisons).verdict ≡ o
  unfolding price_when
  when_verdict (given v) p = refl
  when_verdict (refused k) p = refl

  verdict_is : (price_answer entries s allow registers comparisons).verdict ≡ behind (judge_records q allow) large short
  unfolding price_verdict price_judged
  verdict_is = ap (λ (a : Priced). a.verdict) answer_is ∙ when_verdict (price_verdict q allow registers comparisons) (price_records entries q)

  judged_is : judged s allow ≡ judge_records q allow
  unfolding judged
  judged_is = when_given_by (λ q. judge_records q allow) sheet.reads

  accepted_by : (v : ℕ) → judge_records q allow ≡ given v → Accepted s allow q v
  accepted_by v h = record { sheet = sheet; accepts = judged_is ∙ h }

  never_past : {k : ℕ} → 12 < k → 28 ≢ k → judge_records q allow ≢ refused k
  unfolding judge_records
  never_past a b = judge_never_past (count_of q) (leasts_of q) (edges_of q) allow a b

  -- 19 on an accepted sheet: the test finds a step whose largest offset is too large.
  large_iff : {v : ℕ} → Accepted s allow q v → (large ≡ true) ↔ SomeLarge q
  unfolding too_large
  large_iff accepted = (found, finds)
    where
      test : ℕ → Bool
      test a = open_at q a && leb register_entries (largest_offset (count_of q) (plan_of q) a)

      found : large ≡ true → SomeLarge q
      found h =
          let r = any_below_has test (count_of q) h in
          let t = and_split (open_at q r.0) (leb register_entries (largest_offset (count_of q) (plan_of q) r.0)) r.2 in
          record { step = r.0; within = r.1; is_open = t.0; offset = largest_offset (count_of q) (plan_of q) r.0; largest = largest_for accepted r.0 r.1; large = leb-true register_entries _ t.1 }

      finds : SomeLarge q → large ≡ true
      finds L = any_below_by test (count_of q) L.within (and_join L.is_open (le-leb register_entries (largest_offset (count_of q) (plan_of q) L.step) (omega (arith, L.large, largest_most L.largest (largest_for accepted L.step L.within)))))

  pub small_iff : {v : ℕ} → Accepted s allow q v → (large ≡ false) ↔ (¬ SomeLarge q)
  small_iff accepted =
      let r = large_iff accepted in
      (λ h L. both_ways (r.1 L) h, λ none. not_passing large (λ t. none (r.0 t)))

  short_means : (short ≡ true) ↔ ((length registers < count_of q) ⊎ (length comparisons < count_of q))
  short_means = (λ h. split (or_split (too_short registers (count_of q)) (too_short comparisons (count_of q)) h), join)
    where
      split : (too_short registers (count_of q) ≡ true) ⊎ (too_short comparisons (count_of q) ≡ true) → (length registers < count_of q) ⊎ (length comparisons < count_of q)
      split (inl t) = inl ((short_iff registers (count_of q)).0 t)
      split (inr t) = inr ((short_iff comparisons (count_of q)).0 t)

      join : (length registers < count_of q) ⊎ (length comparisons < count_of q) → short ≡ true
      join (inl b) = or_left (too_short comparisons (count_of q)) ((short_iff registers (count_of q)).1 b)
      join (inr b) = or_right (too_short registers (count_of q)) ((short_iff comparisons (count_of q)).1 b)

  long_means : (short ≡ false) ↔ ((count_of q ≤ length registers) × (count_of q ≤ length comparisons))
  long_means =
      let r = or_neither (too_short registers (count_of q)) (too_short comparisons (count_of q)) in
      (λ h. let a = r.0 h in ((long_iff registers (count_of q)).0 a.0, (long_iff comparisons (count_of q)).0 a.1), λ x. r.1 ((long_iff registers (count_of q)).1 x.0, (long_iff comparisons (count_of q)).1 x.1))

  -- What is written in front of the lent numbers.
  price_is : (o : Outcome ℕ) (v : ℕ) → o ≡ given v → (price_when o (price_records entries q) registers comparisons).price ≡ record {
    registers = (price_records entries q).registers ++ drop (count_of q) registers;
    comparisons = (price_records entries q).comparisons ++ drop (count_of q) comparisons;
    register_total = (price_records entries q).register_total;
    comparison_total = (price_records entries q).comparison_total;
  }
  unfolding price_when written price_records price_of
  price_is o v h = rw (h, tabulate_length, tabulate_length)

  price_call : PriceCall entries s allow q registers comparisons
  unfolding price_verdict price_judged
  price_call = record {
    as_judged = λ k not-19 not-14. (
      λ h. only (behind_other (judge_records q allow) large short k (sym verdict_is ∙ h)) not-19 not-14,
      λ h. verdict_is ∙ behind_refused (judge_records q allow) large short k (sym judged_is ∙ h),
    );
    refused_19 = (
      λ h. let r = nineteen.0 (sym verdict_is ∙ h) in let A = accepted_by r.0 r.1 in (r.0, A, (large_iff A).0 r.2),
      λ x. verdict_is ∙ nineteen.1 (x.0, sym judged_is ∙ x.1.accepts, (large_iff x.1).1 x.2),
    );
    refused_14 = (
      λ h. let r = fourteen.0 (sym verdict_is ∙ h) in let A = accepted_by r.0 r.1 in (r.0, A, (small_iff A).0 r.2, short_means.0 r.3),
      λ x. verdict_is ∙ fourteen.1 (x.0, sym judged_is ∙ x.1.accepts, (small_iff x.1).1 x.2, short_means.1 x.3),
    );
    priced = λ v. (
      λ h. let r = (behind_given (judge_records q allow) large short v).0 (sym verdict_is ∙ h) in let A = accepted_by v r.0 in (A, (small_iff A).0 r.1, (long_means.0 r.2).0, (long_means.0 r.2).1),
      λ x. verdict_is ∙ (behind_given (judge_records q allow) large short v).1 (sym judged_is ∙ x.0.accepts, (small_iff x.0).1 x.1, long_means.1 (x.2, x.3)),
    );
    numbers = λ v h. ap (λ (a : Priced). a.price) answer_is ∙ price_is (price_verdict q allow registers comparisons) v (sym verdict_is ∙ h);
  }
    where
      nineteen : (behind (judge_records q allow) large short ≡ refused 19) ↔ ((v : ℕ) × (judge_records q allow ≡ given v) × (large ≡ true))
      nineteen = behind_19 (judge_records q allow) large short (never_past (omega arith) (λ e. omega arith))

      fourteen : (behind (judge_records q allow) large short ≡ refused 14) ↔ ((v : ℕ) × (judge_records q allow ≡ given v) × (large ≡ false) × (short ≡ true))
      fourteen = behind_14 (judge_records q allow) large short (never_past (omega arith) (λ e. omega arith))

      only : {k : ℕ} → (judge_records q allow ≡ refused k) ⊎ ((k ≡ 19) ⊎ (k ≡ 14)) → k ≢ 19 → k ≢ 14 → judged s allow ≡ refused k
      only (inl e) a b = judged_is ∙ e
      only (inr (inl e)) a b = absurd (a e)
      only (inr (inr e)) a b = absurd (b e)

-- ## Any bytes

module _ (entries : List ℕ) (allow : Bool) (registers comparisons : List ℕ) (k : ℕ) where
  -- What judging a sheet refuses is no refusal of reading, and neither is 19 or 14.
  not_reading : (q : Records) → (price_read entries (given q) allow registers comparisons).verdict ≡ refused k → FromReading k → ⊥
  unfolding price_read price_verdict price_judged price_when judge_records
  not_reading q h b = go (behind_other (judge_records q allow) (too_large (open_at q) (count_of q) (plan_of q)) (too_short registers (count_of q) || too_short comparisons (count_of q)) k (sym (verdict_of (price_verdict q allow registers comparisons)) ∙ h)) b
    where
      verdict_of : (o : Outcome ℕ) → (price_when o (price_records entries q) registers comparisons).verdict ≡ o
      verdict_of (given v) = refl
      verdict_of (refused l) = refl

      go : (judge_records q allow ≡ refused k) ⊎ ((k ≡ 19) ⊎ (k ≡ 14)) → FromReading k → ⊥
      go (inl e) (inl b) = judge_never (count_of q) (leasts_of q) (edges_of q) allow (omega arith) e
      go (inl e) (inr b) = judge_never_past (count_of q) (leasts_of q) (edges_of q) allow (omega arith) (λ z. omega arith) e
      go (inr (inl e)) (inl b) = omega arith
      go (inr (inl e)) (inr b) = omega arith
      go (inr (inr e)) (inl b) = omega arith
      go (inr (inr e)) (inr b) = omega arith

  as_read : (o : Outcome Records) → (price_read entries o allow registers comparisons).verdict ≡ refused k → FromReading k → o ≡ refused k
  unfolding price_read
  as_read (refused l) h b = ap refused (refused_same h)
  as_read (given q) h b = absurd (not_reading q h b)

  refusals : (o : Outcome Records) → (price_read entries o allow registers comparisons).verdict ≡ refused k → (when_given o (λ q. judge_records q allow) ≡ refused k) ⊎ ((k ≡ 19) ⊎ (k ≡ 14))
  unfolding price_read price_verdict price_judged price_when when_given
  refusals (refused l) h = inl (ap refused (refused_same h))
  refusals (given q) h = behind_other (judge_records q allow) (too_large (open_at q) (count_of q) (plan_of q)) (too_short registers (count_of q) || too_short comparisons (count_of q)) k (sym (verdict_of (price_verdict q allow registers comparisons)) ∙ h)
    where
      verdict_of : (o : Outcome ℕ) → (price_when o (price_records entries q) registers comparisons).verdict ≡ o
      verdict_of (given v) = refl
      verdict_of (refused l) = refl

  left_as_lent : (o : Outcome Records) → (price_read entries o allow registers comparisons).verdict ≡ refused k → (price_read entries o allow registers comparisons).price ≡ record { registers = registers; comparisons = comparisons; register_total = 0; comparison_total = 0 }
  unfolding price_read price_when
  left_as_lent (refused l) h = refl
  left_as_lent (given q) h = go (price_verdict q allow registers comparisons) h
    where
      go : (o : Outcome ℕ) → (price_when o (price_records entries q) registers comparisons).verdict ≡ refused k → (price_when o (price_records entries q) registers comparisons).price ≡ record { registers = registers; comparisons = comparisons; register_total = 0; comparison_total = 0 }
      go (given v) h = absurd (given_not_refused h)
      go (refused l) h = refl

pub price_calls : PriceExactly
unfolding price_answer price_read judged
price_calls = record {
  unread = λ entries s allow registers comparisons k bytes. (
    λ h. (ap (λ (o : Outcome Records). (price_read entries o allow registers comparisons).verdict) h, read_most s k bytes h),
    λ r. as_read entries allow registers comparisons k (read s) r.0 r.1,
  );
  sheets = price_call;
  no_others = λ entries s allow registers comparisons k h. refusals entries allow registers comparisons k (read s) h;
  untouched = λ entries s allow registers comparisons k h. left_as_lent entries allow registers comparisons k (read s) h;
}
