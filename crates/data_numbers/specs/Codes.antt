-- Answers as one number, and whether there is one.
use Rattle.std.specs.Prelude.{◌≡◌, Bool, true, false, List, ℕ, ◌+◌}
use Rattle.definitions.specs.Answers.{Written}
use Rattle.definitions.specs.Basics.{Outcome, given, refused}
use Rattle.definitions.specs.Dispatcher.{Progress}

-- Whether an outcome is an answer: of judging, whether the sheet is accepted.
abbrev pub is_given : Outcome ℕ → Bool
is_given (given v) = true
is_given (refused k) = false

-- The largest number that a refusal has.
abbrev pub largest_refusal : ℕ
largest_refusal = 31

-- Verdicts and refusals share one number: a refusal's stands past this one, which is above every verdict. The constant REFUSALS_PAST of the code is the same.
abbrev pub refusals_past : ℕ
refusals_past = 256

-- A verdict: an accepted sheet's, 0 or 1, as it is; a refusal by its number past 256.
abbrev pub code : Outcome ℕ → ℕ
code (given v) = v
code (refused k) = refusals_past + k

-- A call's answer: 0, or a refusal by its number past 256.
abbrev pub call_code : Outcome Progress → ℕ
call_code (given g) = 0
call_code (refused k) = refusals_past + k

-- A count: 0, for it is left beside, or a refusal by its number past 256.
abbrev pub tally_code : Outcome ℕ → ℕ
tally_code (given k) = 0
tally_code (refused k) = refusals_past + k

-- What a call that writes numbers and counts them (requests L14, L4) returns to C, and what it leaves where numbers and a count are lent: on a refusal what was lent.
abbrev pub count_left : Outcome ℕ → ℕ → ℕ
count_left (given k) lent = k
count_left (refused k) lent = lent

pub record CountsInto (answer : Written) (lent r : ℕ) (left-numbers : List ℕ) (left-count : ℕ) : Type 0 where
  pub verdict : r ≡ tally_code answer.verdict
  pub numbers : left-numbers ≡ answer.numbers
  pub count : left-count ≡ count_left answer.verdict lent
