-- What the dispatcher's functions return.
use Rattle.std.specs.Prelude.{Bool, ◌||◌, List, ℕ, ◌*◌, ◌≤◌, length}
use Rattle.definitions.specs.Limits.{most_steps}
use Rattle.definitions.specs.Answers.{too_short}
use Rattle.definitions.specs.Dispatcher.{Returns, begin, finish, tick}
use Rattle.definitions.specs.declared.Dispatch.{Dispatch}
use Rattle.definitions.specs.declared.State.{State}

-- The three calls, on the state that is given, the table and for Begin the least durations that are lent: the outcome of the definition, and on a refusal its number, the state as given and map
-- 0 (`Returns`). The contracts are these, and what is promised of runs (crate promises) is promised of what they say is returned.
abbrev pub BeginReturned : State → ℕ → ℕ → List ℕ → List ℕ → Dispatch → Type 0
BeginReturned st n unbounded leasts table r = Returns st (begin st n unbounded leasts table) r

abbrev pub TickReturned : State → List ℕ → Dispatch → Type 0
TickReturned st table r = Returns st (tick st table) r

abbrev pub FinishReturned : State → ℕ → List ℕ → Dispatch → Type 0
FinishReturned st s table r = Returns st (finish st s table) r

-- `too_little`: refusal 14 of Begin. The table has fewer than n × n numbers, or the list of least durations fewer than n.
abbrev pub too_little : ℕ → List ℕ → List ℕ → Bool
too_little n leasts table = too_short table (n * n) || too_short leasts n

-- What Begin passes on: a least duration is lent for each step.
pub record LeastsThere (n : ℕ) (leasts : List ℕ) : Type 0 where
  pub few : n ≤ most_steps
  pub long : n ≤ length leasts
