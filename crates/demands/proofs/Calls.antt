-- Each call judges the sheet first: it refuses with a number other than 13 and 14 exactly where judging does, on any bytes.
use mathlib.Core.Path.{◌≡◌, sym}
use mathlib.Core.Bool.{Bool, true, ◌||◌}
use mathlib.Core.Logic.{◌≢◌, ◌↔◌}
use mathlib.Core.List.{List}
use Prim.Native.Nat.{ℕ, ◌*◌}
use Rattle.definitions.specs.Basics.{Outcome, given, refused, refuse_if, when_given}
use Rattle.definitions.specs.Bytes.{Records, read}
use Rattle.definitions.specs.Plan.{delays_wrong}
use Rattle.definitions.specs.Answers.{count_of, judge_records, judged, no_waits, waits_when, waits_read, waits_answer, too_short, plan_verdict, plan_read, planned, starts_verdict, starts_read, starts_answer}
use Rattle.laws.proofs.Outcomes.{given_not_refused, refuse_never}
use Rattle.demands.specs.Demands.{SameRefusal}

-- A call that judges first and then refuses with other numbers only refuses with k exactly where judging does.
first_check : (o : Outcome ℕ) (f : ℕ → Outcome ℕ) (k : ℕ) → ((v : ℕ) → f v ≢ refused k) → (when_given o f ≡ refused k) ↔ (o ≡ refused k)
unfolding when_given
first_check (given v) f k h = (λ e. absurd (h v e), λ e. absurd (given_not_refused e))
first_check (refused l) f k h = (λ e. e, λ e. e)

no_given : (v k : ℕ) → given v ≢ refused k
no_given v k e = given_not_refused e

waits_same : (k : ℕ) (o : Outcome Records) → ((waits_read o).verdict ≡ refused k) ↔ (when_given o (λ q. judge_records q true) ≡ refused k)
unfolding waits_read waits_when no_waits when_given
waits_same k (refused l) = (λ h. h, λ h. h)
waits_same k (given q) = go (judge_records q true)
  where
    go : (o : Outcome ℕ) → ((waits_when q o).verdict ≡ refused k) ↔ (o ≡ refused k)
    go (given v) = (λ h. h, λ h. h)
    go (refused l) = (λ h. h, λ h. h)

plan_same : (allow : Bool) (table : List ℕ) (k : ℕ) → k ≢ 13 → k ≢ 14 → (o : Outcome Records) → ((plan_read o allow table).verdict ≡ refused k) ↔ (when_given o (λ q. judge_records q allow) ≡ refused k)
unfolding plan_read plan_verdict when_given
plan_same allow table k h i (refused l) = (λ e. e, λ e. e)
plan_same allow table k h i (given q) =
    first_check (judge_records q allow) (λ v. refuse_if (too_short table (count_of q * count_of q)) 14 (given v)) k
    (λ v. refuse_never (too_short table (count_of q * count_of q)) 14 (given v) (λ e. i (sym e)) (no_given v k))

starts_same : (allow : Bool) (list out : List ℕ) (k : ℕ) → k ≢ 13 → k ≢ 14 → (o : Outcome Records) → ((starts_read o allow list out).verdict ≡ refused k) ↔ (when_given o (λ q. judge_records q allow) ≡ refused k)
unfolding starts_read starts_verdict when_given
starts_same allow list out k h i (refused l) = (λ e. e, λ e. e)
starts_same allow list out k h i (given q) =
    let short = too_short list (count_of q) || too_short out (count_of q) in
    first_check (judge_records q allow) (λ v. refuse_if (delays_wrong q.steps list) 13 (refuse_if short 14 (given v))) k
    (λ v. refuse_never (delays_wrong q.steps list) 13 (refuse_if short 14 (given v)) (λ e. h (sym e)) (refuse_never short 14 (given v) (λ e. i (sym e)) (no_given v k)))

pub same_refusal : (s : List ℕ) (allow : Bool) (k : ℕ) → k ≢ 13 → k ≢ 14 → SameRefusal s allow k
unfolding waits_answer planned starts_answer judged
same_refusal s allow k h i =
    record { waits = waits_same k (read s); plan = λ table. plan_same allow table k h i (read s); starts = λ list out. starts_same allow list out k h i (read s) }
