-- The numbers and values of document 01 for each case of the enums. Every promise about one of these enums goes through these definitions.
use Rattle.std.specs.Prelude.{ℕ, Result, Ok, Err}
use Rattle.definitions.specs.Basics.{Outcome, given, refused}
use Rattle.definitions.specs.declared.Refusal.{Refusal}
use Rattle.definitions.specs.declared.Refusal.TheVariants.{Truncated, OperationCount, LinkCount, BadMap, BadEndpoint, BadOrder, Trailing, ForwardCycle, Infeasible, Inconsistent, WaitsNeeded, BadDelays, TooShort, NotBegun, AlreadyBegun, CannotFinish, ClockEnd, LargeOffset, TooEarly, Unsequenced, Unserializable, NotImpossible}
use Rattle.definitions.specs.declared.Acceptance.{Acceptance}
use Rattle.definitions.specs.declared.Acceptance.TheVariants.{WellPosed, Serialized}

-- The refusals of "From the input" and "From the state", but for 9, which is never given since request L3; and those of requests L5, L6, L11 and L14.
abbrev pub number : Refusal → ℕ
number Truncated = 1
number OperationCount = 2
number LinkCount = 3
number BadMap = 4
number BadEndpoint = 5
number BadOrder = 6
number Trailing = 7
number ForwardCycle = 8
number Infeasible = 10
number Inconsistent = 11
number WaitsNeeded = 12
number BadDelays = 13
number TooShort = 14
number NotBegun = 15
number AlreadyBegun = 16
number CannotFinish = 17
number ClockEnd = 18
number LargeOffset = 19
number TooEarly = 20
number Unsequenced = 26
number Unserializable = 28
number NotImpossible = 31

-- What judging a sheet answers, a call, and a call that says how many numbers it wrote.
abbrev pub Verdict : Type 0
Verdict = Result Acceptance Refusal

abbrev pub Status : Type 0
Status = Result (Unit {0}) Refusal

abbrev pub Tally : Type 0
Tally = Result ℕ Refusal

-- Verdict 0 is sound, 1 sound with waits.
abbrev pub verdict_of : Verdict → Outcome ℕ
verdict_of (Ok WellPosed) = given 0
verdict_of (Ok Serialized) = given 1
verdict_of (Err k) = refused (number k)

-- What a call answers: a value that stands beside its status, or a refusal.
abbrev pub status_of : {A : Type 0} → Status → A → Outcome A
status_of (Ok done) a = given a
status_of (Err k) a = refused (number k)

-- What a call answers that returns a value: how many numbers it wrote, say; or a refusal.
abbrev pub answer_of : {A : Type 0} → Result A Refusal → Outcome A
answer_of (Ok a) = given a
answer_of (Err k) = refused (number k)

abbrev pub tally_of : Tally → Outcome ℕ
tally_of = answer_of
