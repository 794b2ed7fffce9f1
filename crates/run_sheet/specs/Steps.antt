-- What giving a sheet's N, open map and leasts returns, and what it leaves in the numbers that are lent for them.
use Rattle.std.specs.Prelude.{◌≡◌, ◌||◌, List, ◌++◌, ℕ, ◌≤◌, eqb, length, drop}
use Rattle.definitions.specs.Numbers.{Status, status_of}
use Rattle.definitions.specs.Answers.{Beginning, steps_answer, too_short}
use Rattle.definitions.specs.Basics.{Outcome, given, refused, bits_below, refuse_if, tabulate, test_bit}
use Rattle.definitions.specs.Limits.{most_steps}
use Rattle.data_edges.specs.Serial.{leasts_in}

-- The memory that is lent: a number for N, one for the map, and numbers for the leasts.
abbrev pub memory : ℕ → ℕ → List ℕ → Beginning
memory n unbounded leasts = record { n = n; unbounded = unbounded; leasts = leasts }

-- What is left in it: the answer, and on a refusal what was lent.
abbrev pub left_in : Beginning → Outcome Beginning → Beginning
left_in lent (given b) = b
left_in lent (refused k) = lent

-- An outcome as it is returned: its status, and the memory after it.
pub record Returns (outcome : Outcome Beginning) (lent : Beginning) (r : Status) (after : Beginning) : Type 0 where
  pub answer : status_of r after ≡ outcome
  pub n : after.n ≡ (left_in lent outcome).n
  pub unbounded : after.unbounded ≡ (left_in lent outcome).unbounded
  pub leasts : after.leasts ≡ (left_in lent outcome).leasts

-- The call on the bytes s, lent this memory, returns r and leaves the memory after it: the answer of the definitions. What is promised of a run that is begun with it (crate promises) is promised of what this says.
abbrev pub StepsReturned : List ℕ → Beginning → Status → Beginning → Type 0
StepsReturned s lent r after = Returns (steps_answer s lent.leasts) lent r after

-- The answer from a count of steps, a map of the open ones other than 0, and the leasts that an array holds.
abbrev pub steps_of : ℕ → ℕ → List ℕ → List ℕ → Outcome Beginning
steps_of count others held lent = refuse_if (too_short lent count) 14 (given (memory count (bits_below (λ (i : ℕ). eqb i 0 || test_bit others i) count) (tabulate (leasts_in held) count ++ drop count lent)))

-- The count of a sheet's steps.
pub record Counted (n : ℕ) : Type 0 where
  pub some : 1 ≤ n
  pub few : n ≤ most_steps

-- Numbers for n leasts.
pub record Room (n : ℕ) (leasts : List ℕ) : Type 0 where
  pub few : n ≤ most_steps
  pub long : n ≤ length leasts
