-- Refusals 13 and 14, and what each call returns beside its verdict. A call judges, then checks its list and what it was lent; on acceptance the answer stands in front of what was lent.
use mathlib.Core.Path.{◌≡◌, refl, sym, ap, ◌∙◌}
use mathlib.Core.Bool.{Bool, true, false, ◌||◌}
use mathlib.Core.Logic.{◌⊎◌, inl, inr, ◌≢◌, ◌↔◌}
use mathlib.Core.List.{List, ◌++◌}
use Prim.Native.Nat.{ℕ, ◌*◌, ◌≤◌, ◌<◌}
use native.Mathlib.Omega.{arith}
use lib.ListN.{length, drop, get_or-append}
use borrow.Author.Tests.{ltb-true, ltb-false, lt-ltb, le-ltb}
use Rattle.definitions.specs.Basics.{Outcome, given, refused, refuse_if, when_given}
use Rattle.definitions.specs.Bytes.{Records}
use Rattle.definitions.specs.Rounds.{cell}
use Rattle.definitions.specs.Plan.{start_times, plan_table, delays_wrong, delays}
use Rattle.definitions.specs.Answers.{count_of, edges_of, serialized_of, judge_records, judged, Waits, no_waits, waits_when, waits_read, waits_answer, too_short, written, plan_verdict, plan_read, planned, starts_verdict, starts_read, starts_answer, leasts_of, steps_read, steps_answer}
use Rattle.laws.proofs.Bools.{or_neither, or_split, or_left, or_right}
use Rattle.definitions.specs.Waits.{wait_maps, wait_count}
use Rattle.laws.proofs.Negations.{passes_unless}
use Rattle.laws.proofs.Outcomes.{given_not_refused, refuse_own, refuse_other, refuse_given, refuse_never, when_given_by, when_given_has, when_given_refused}
use Rattle.theory.proofs.PlanTables.{plan_table_length}
use Rattle.theory.proofs.StartTimes.{start_times_length}
use Rattle.demands.specs.Demands.{IsSheet, WithinLimits, WaitsCall, PlanCall, StartsCall, StepsExactly, CallsFor, ReturnedFor}
use Rattle.demands.proofs.Reading.{fits_of}
use Rattle.demands.proofs.Judging.{judge_never_past}
use Rattle.demands.proofs.DelayLists.{limits_meant}

-- 14 as a fact about lengths.
pub short_iff : (lent : List ℕ) (size : ℕ) → (too_short lent size ≡ true) ↔ (length lent < size)
unfolding too_short
short_iff lent size = (ltb-true (length lent) size, lt-ltb (length lent) size)

pub long_iff : (lent : List ℕ) (size : ℕ) → (too_short lent size ≡ false) ↔ (size ≤ length lent)
unfolding too_short
long_iff lent size = (ltb-false (length lent) size, le-ltb (length lent) size)

module _ (s : List ℕ) (allow : Bool) (q : Records) (sheet : IsSheet s q) where
  on_records : judged s allow ≡ judge_records q allow
  unfolding judged
  on_records = when_given_by (λ q. judge_records q allow) sheet.reads

  never_past : {k : ℕ} → 12 < k → 28 ≢ k → judge_records q allow ≢ refused k
  unfolding judge_records
  never_past = judge_never_past (count_of q) (leasts_of q) (edges_of q) allow

  -- A call that goes on after acceptance, refused with a number that judging does not give, or accepted.
  past : (f : ℕ → Outcome ℕ) (k : ℕ) → 12 < k → 28 ≢ k → (when_given (judge_records q allow) f ≡ refused k) ↔ ((v : ℕ) × (judged s allow ≡ given v) × (f v ≡ refused k))
  past f k h z =
      let r = when_given_refused (judge_records q allow) f k (never_past h z) in
      (λ e. let a = r.0 e in (a.0, on_records ∙ a.1, a.2), λ a. r.1 (a.0, sym on_records ∙ a.1, a.2))

  answered : (f : ℕ → Outcome ℕ) (w : ℕ) → (when_given (judge_records q allow) f ≡ given w) ↔ ((v : ℕ) × (judged s allow ≡ given v) × (f v ≡ given w))
  answered f w = (
    λ e. let a = when_given_has (judge_records q allow) f e in (a.0, on_records ∙ a.1, a.2),
    λ a. when_given_by f (sym on_records ∙ a.1) ∙ a.2,
  )

  module _ (table : List ℕ) where
    abbrev short : Bool
    short = too_short table (count_of q * count_of q)

    abbrev after_plan : ℕ → Outcome ℕ
    after_plan v = refuse_if short 14 (given v)

    plan_is : (planned s allow table).verdict ≡ when_given (judge_records q allow) after_plan
    unfolding planned plan_read plan_verdict
    plan_is = ap (λ (o : Outcome Records). (plan_read o allow table).verdict) sheet.reads

    plan_numbers : (planned s allow table).numbers ≡ written (planned s allow table).verdict (plan_table (count_of q) (leasts_of q) (serialized_of q)) table
    unfolding planned plan_read
    plan_numbers = rw sheet.reads

    plan_call : PlanCall s allow q table
    unfolding written
    plan_call = record {
      refused_14 = (
        λ h. let a = (past after_plan 14 (omega arith) (λ e. omega arith)).0 (sym plan_is ∙ h) in ((a.0, a.1), (short_iff table (count_of q * count_of q)).0 ((refuse_own short 14 (given a.0) (λ e. given_not_refused e)).0 a.2)),
        λ x. plan_is ∙ (past after_plan 14 (omega arith) (λ e. omega arith)).1 (x.0.0, x.0.1, (refuse_own short 14 (given x.0.0) (λ e. given_not_refused e)).1 ((short_iff table (count_of q * count_of q)).1 x.1)),
      );
      accepted = λ v. (
        λ h. let a = (answered after_plan v).0 (sym plan_is ∙ h) in let b = (refuse_given short 14 (given a.0) v).0 a.2 in (a.1 ∙ b.1, (long_iff table (count_of q * count_of q)).0 b.0),
        λ x. plan_is ∙ (answered after_plan v).1 (v, x.0, (refuse_given short 14 (given v) v).1 ((long_iff table (count_of q * count_of q)).1 x.1, refl)),
      );
      numbers = λ v h. plan_numbers ∙ ap (λ (o : Outcome ℕ). written o (plan_table (count_of q) (leasts_of q) (serialized_of q)) table) h ∙ ap (λ (k : ℕ). plan_table (count_of q) (leasts_of q) (serialized_of q) ++ drop k table) (plan_table_length (count_of q) (leasts_of q) (serialized_of q));
      untouched = λ k h. plan_numbers ∙ ap (λ (o : Outcome ℕ). written o (plan_table (count_of q) (leasts_of q) (serialized_of q)) table) h;
    }

  module _ (list out : List ℕ) where
    abbrev wrong : Bool
    wrong = delays_wrong q.steps list

    abbrev lacking : Bool
    lacking = too_short list (count_of q) || too_short out (count_of q)

    abbrev after_list : ℕ → Outcome ℕ
    after_list v = refuse_if lacking 14 (given v)

    abbrev after_starts : ℕ → Outcome ℕ
    after_starts v = refuse_if wrong 13 (after_list v)

    right_iff : (wrong ≡ false) ↔ WithinLimits q list
    right_iff = limits_meant q (fits_of sheet).some list

    lacking_iff : (lacking ≡ true) ↔ ((length list < count_of q) ⊎ (length out < count_of q))
    lacking_iff = (λ h. found (or_split (too_short list (count_of q)) (too_short out (count_of q)) h), test)
      where
        found : (too_short list (count_of q) ≡ true) ⊎ (too_short out (count_of q) ≡ true) → (length list < count_of q) ⊎ (length out < count_of q)
        found (inl h) = inl ((short_iff list (count_of q)).0 h)
        found (inr h) = inr ((short_iff out (count_of q)).0 h)

        test : (length list < count_of q) ⊎ (length out < count_of q) → lacking ≡ true
        test (inl h) = or_left (too_short out (count_of q)) ((short_iff list (count_of q)).1 h)
        test (inr h) = or_right (too_short list (count_of q)) ((short_iff out (count_of q)).1 h)

    enough_iff : (lacking ≡ false) ↔ ((count_of q ≤ length list) × (count_of q ≤ length out))
    enough_iff =
        let r = or_neither (too_short list (count_of q)) (too_short out (count_of q)) in
        (λ h. let a = r.0 h in ((long_iff list (count_of q)).0 a.0, (long_iff out (count_of q)).0 a.1), λ x. r.1 ((long_iff list (count_of q)).1 x.0, (long_iff out (count_of q)).1 x.1))

    starts_are : (starts_answer s allow list out).verdict ≡ when_given (judge_records q allow) after_starts
    unfolding starts_answer starts_read starts_verdict
    starts_are = ap (λ (o : Outcome Records). (starts_read o allow list out).verdict) sheet.reads

    starts_numbers : (starts_answer s allow list out).numbers ≡ written (starts_answer s allow list out).verdict (start_times (count_of q) (leasts_of q) (serialized_of q) (delays list)) out
    unfolding starts_answer starts_read
    starts_numbers = rw sheet.reads

    thirteen : (v : ℕ) → (after_starts v ≡ refused 13) ↔ (wrong ≡ true)
    thirteen v = refuse_own wrong 13 (after_list v) (refuse_never lacking 14 (given v) (λ e. omega arith) (λ e. given_not_refused e))

    fourteen : (v : ℕ) → (after_starts v ≡ refused 14) ↔ ((wrong ≡ false) × (lacking ≡ true))
    fourteen v =
        let r = refuse_other wrong 13 (after_list v) {l = 14} (λ e. omega arith) in
        let t = refuse_own lacking 14 (given v) (λ e. given_not_refused e) in
        (λ h. let a = r.0 h in (a.0, t.0 a.1), λ x. r.1 (x.0, t.1 x.1))

    worked_out : (v w : ℕ) → (after_starts v ≡ given w) ↔ ((wrong ≡ false) × (lacking ≡ false) × (given v ≡ given w))
    worked_out v w =
        let r = refuse_given wrong 13 (after_list v) w in
        let t = refuse_given lacking 14 (given v) w in
        (λ h. let a = r.0 h in let b = t.0 a.1 in (a.0, b.0, b.1), λ x. r.1 (x.0, t.1 (x.1, x.2)))

    starts_call : StartsCall s allow q list out
    unfolding written
    starts_call = record {
      refused_13 = (
        λ h. let a = (past after_starts 13 (omega arith) (λ e. omega arith)).0 (sym starts_are ∙ h) in ((a.0, a.1), (passes_unless wrong right_iff).0 ((thirteen a.0).0 a.2)),
        λ x. starts_are ∙ (past after_starts 13 (omega arith) (λ e. omega arith)).1 (x.0.0, x.0.1, (thirteen x.0.0).1 ((passes_unless wrong right_iff).1 x.1)),
      );
      refused_14 = (
        λ h. let a = (past after_starts 14 (omega arith) (λ e. omega arith)).0 (sym starts_are ∙ h) in let b = (fourteen a.0).0 a.2 in ((a.0, a.1), right_iff.0 b.0, lacking_iff.0 b.1),
        λ x. starts_are ∙ (past after_starts 14 (omega arith) (λ e. omega arith)).1 (x.0.0, x.0.1, (fourteen x.0.0).1 (right_iff.1 x.1, lacking_iff.1 x.2)),
      );
      accepted = λ v. (
        λ h. let a = (answered after_starts v).0 (sym starts_are ∙ h) in let b = (worked_out a.0 v).0 a.2 in let e = enough_iff.0 b.1 in (a.1 ∙ b.2, right_iff.0 b.0, e.0, e.1),
        λ x. starts_are ∙ (answered after_starts v).1 (v, x.0, (worked_out v v).1 (right_iff.1 x.1, enough_iff.1 (x.2, x.3), refl)),
      );
      numbers = λ v h. starts_numbers ∙ ap (λ (o : Outcome ℕ). written o (start_times (count_of q) (leasts_of q) (serialized_of q) (delays list)) out) h ∙ ap (λ (k : ℕ). start_times (count_of q) (leasts_of q) (serialized_of q) (delays list) ++ drop k out) (start_times_length (count_of q) (leasts_of q) (serialized_of q) (delays list));
      untouched = λ k h. starts_numbers ∙ ap (λ (o : Outcome ℕ). written o (start_times (count_of q) (leasts_of q) (serialized_of q) (delays list)) out) h;
    }

-- Listing waits.
module _ (s : List ℕ) (q : Records) (sheet : IsSheet s q) where
  waits_are : waits_answer s ≡ waits_when q (judge_records q true)
  unfolding waits_answer waits_read
  waits_are = rw sheet.reads

  waits_verdict : (o : Outcome ℕ) → (waits_when q o).verdict ≡ o
  unfolding waits_when no_waits
  waits_verdict (given v) = refl
  waits_verdict (refused k) = refl

  verdict_is : (waits_answer s).verdict ≡ judge_records q true
  verdict_is = ap (λ (w : Waits). w.verdict) waits_are ∙ waits_verdict (judge_records q true)

  waits_of_given : {o : Outcome ℕ} {v : ℕ} → o ≡ given v → waits_when q o ≡ record { verdict = given v; maps = wait_maps (count_of q) (edges_of q); count = wait_count (count_of q) (edges_of q) }
  unfolding waits_when
  waits_of_given h = rw h

  waits_of_refused : {o : Outcome ℕ} {k : ℕ} → o ≡ refused k → waits_when q o ≡ no_waits k
  unfolding waits_when
  waits_of_refused h = rw h

  waits_call : WaitsCall s q
  unfolding no_waits
  waits_call =
      let j = on_records s true q sheet in
      record {
        accepted = λ v. (λ h. j ∙ sym verdict_is ∙ h, λ h. verdict_is ∙ sym j ∙ h);
        maps = λ v h. ap (λ (w : Waits). w.maps) (waits_are ∙ waits_of_given (sym verdict_is ∙ h));
        count = λ v h. ap (λ (w : Waits). w.count) (waits_are ∙ waits_of_given (sym verdict_is ∙ h));
        no_maps = λ k h. ap (λ (w : Waits). w.maps) (waits_are ∙ waits_of_refused (sym verdict_is ∙ h));
        no_count = λ k h. ap (λ (w : Waits). w.count) (waits_are ∙ waits_of_refused (sym verdict_is ∙ h));
      }

pub calls_for : (s : List ℕ) (allow : Bool) (q : Records) → IsSheet s q → CallsFor s allow q
calls_for s allow q sheet = record { waits = waits_call s q sheet; plan = plan_call s allow q sheet; starts = starts_call s allow q sheet }

-- So starts are returned only of an accepted sheet, for a list within the limits; and the numbers that are returned begin with them.
pub returned : (s : List ℕ) (allow : Bool) (q : Records) (v : ℕ) (list out : List ℕ) → IsSheet s q → (starts_answer s allow list out).verdict ≡ given v → ReturnedFor s allow q v list out
returned s allow q v list out sheet h =
    let C = starts_call s allow q sheet list out in
    let a = (C.accepted v).0 h in
    let times = start_times (count_of q) (leasts_of q) (serialized_of q) (delays list) in
    record { accepted = record { sheet = sheet; accepts = a.0 }; source = a.1.source; numbers = λ i b. ap (λ (l : List ℕ). cell l i) (C.numbers v h) ∙ get_or-append times (drop (count_of q) out) 0 i (omega (arith, start_times_length (count_of q) (leasts_of q) (serialized_of q) (delays list))) }

-- What a run is begun with: by the answer of reading, and then by the test for 14.
pub steps_by : StepsExactly
unfolding steps_answer steps_read when_given too_short refuse_if
steps_by = record {
  unread = λ s lent k e. rw e refl;
  short = λ s lent q e b. rw (e, lt-ltb (length lent) (count_of q) b) refl;
  enough = λ s lent q e b. rw (e, le-ltb (length lent) (count_of q) b) refl;
}
