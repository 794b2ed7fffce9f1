-- What the planner's calls over bytes return. The contracts of judge_sheet, plan_sheet and plan_times cite these very names, and the promises (crate promises) are made of them, so what is weakened here breaks the promises.
-- s are the bytes of the sheet, r what is returned.
use Rattle.std.specs.Prelude.{◌≡◌, Bool, List, ℕ}
use Rattle.definitions.specs.Numbers.{Verdict, verdict_of}
use Rattle.definitions.specs.Answers.{judged, planned, starts_answer, waits_answer}
use Rattle.definitions.specs.declared.WaitMaps.{WaitMaps}

-- Judging.
pub record JudgeReturned (s : List ℕ) (allow : Bool) (r : Verdict) : Type 0 where
  pub verdict : verdict_of r ≡ judged s allow

-- Listing waits.
pub record WaitsReturned (s : List ℕ) (r : WaitMaps) : Type 0 where
  pub verdict : verdict_of r.verdict ≡ (waits_answer s).verdict
  pub maps : r.maps ≡ (waits_answer s).maps
  pub count : r.count ≡ (waits_answer s).count

-- Planning: the lent table before and after.
pub record PlanReturned (s : List ℕ) (allow : Bool) (table : List ℕ) (r : Verdict) (after : List ℕ) : Type 0 where
  pub verdict : verdict_of r ≡ (planned s allow table).verdict
  pub numbers : after ≡ (planned s allow table).numbers

-- Working out starts: the list of durations, and the lent numbers before and after.
pub record StartsReturned (s : List ℕ) (allow : Bool) (list out : List ℕ) (r : Verdict) (after : List ℕ) : Type 0 where
  pub verdict : verdict_of r ≡ (starts_answer s allow list out).verdict
  pub numbers : after ≡ (starts_answer s allow list out).numbers
