-- What the planner's calls return to C, and what they leave in the memory that is lent for an answer: the answer where the sheet is accepted, and on a refusal what was lent.
use Rattle.std.specs.Prelude.{◌≡◌, List, ℕ}
use Rattle.definitions.specs.Answers.{Beginning, Waits, Written}
use Rattle.definitions.specs.Basics.{Outcome, given, refused, when_given}
use Rattle.data_numbers.specs.Codes.{code}
use Rattle.run_sheet.specs.Steps.{left_in}

abbrev pub left : {A : Type 0} → Outcome ℕ → A → A → A
left (given v) answer lent = answer
left (refused k) answer lent = lent

-- Listing waits returns r, and leaves these maps and this count where the others were lent.
pub record ListsInto (answer : Waits) (lent-maps : List ℕ) (lent-count : ℕ) (r : ℕ) (left-maps : List ℕ) (left-count : ℕ) : Type 0 where
  pub verdict : r ≡ code answer.verdict
  pub maps : left-maps ≡ left answer.verdict answer.maps lent-maps
  pub count : left-count ≡ left answer.verdict answer.count lent-count

-- Planning, and working out starts: the lent numbers afterwards are the definition's, which says the same of them (`Answers.written`).
pub record WritesInto (answer : Written) (r : ℕ) (left-numbers : List ℕ) : Type 0 where
  pub verdict : r ≡ code answer.verdict
  pub numbers : left-numbers ≡ answer.numbers

-- What a run is begun with: where it is given, 0 is returned, and it is left where N, a map and leasts were lent.
pub record BeginsInto (answer : Outcome Beginning) (lent : Beginning) (r : ℕ) (after : Beginning) : Type 0 where
  pub status : r ≡ code (when_given answer (λ b. given 0))
  pub n : after.n ≡ (left_in lent answer).n
  pub unbounded : after.unbounded ≡ (left_in lent answer).unbounded
  pub leasts : after.leasts ≡ (left_in lent answer).leasts
