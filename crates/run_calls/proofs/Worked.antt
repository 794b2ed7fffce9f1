-- Worked calls on states from anywhere: each theorem excludes an answer that an edit of the code cannot give while it keeps the code's shape, or settles an order of refusals. All by computing.
use mathlib.Core.Path.{◌≡◌, refl, ap}
use mathlib.Core.List.{List, [], ◌∷◌}
use Prim.Native.Nat.{ℕ, ◌-◌}
use lib.ListN.{replicate}
use Rattle.definitions.specs.Basics.{refused}
use Rattle.definitions.specs.Limits.{last_tick}
use Rattle.definitions.specs.Plan.{undecided}
use Rattle.definitions.specs.Dispatcher.{begin, tick, finish, map_after, Returns}
use Rattle.definitions.specs.Worked.{every_definition}
use Rattle.definitions.specs.declared.State.{State}
use Rattle.definitions.specs.declared.Dispatch.{Dispatch}

-- A run of two steps in which step 0 finished at the last tick there is, and the tick.
abbrev after_last : ℕ → ℕ → State
after_last n clock = record { n = n; unbounded = 2; tick = clock; started = 1; finished = 1; start = replicate 64 0; finish = last_tick ∷ replicate 63 0; least = replicate 64 0 }

-- Row 1 names step 0 with this offset.
abbrev one_named : ℕ → List ℕ
one_named offset = undecided ∷ undecided ∷ offset ∷ undecided ∷ []

-- 4,294,967,295 + 2 is above 2. At 32 bits the sum would be 1, and step 1 would start.
pub sum_does_not_wrap : (r : Dispatch) → Returns (after_last 2 1) (tick (after_last 2 1) (one_named 2)) r → r.map ≡ 0
unfolding every_definition map_after
sum_does_not_wrap r R = R.map

-- 4,294,967,294 is an ordinary offset: the named step is not forgotten.
pub largest_offset : (r : Dispatch) → Returns (after_last 2 1) (tick (after_last 2 1) (one_named (undecided - 1))) r → r.map ≡ 0
unfolding every_definition map_after
largest_offset r R = R.map

-- Tick 18 moves no tick: neither to 0 nor past 32 bits.
pub clock_stays : (r : Dispatch) → Returns (after_last 2 last_tick) (tick (after_last 2 last_tick) (one_named 0)) r → r.state ≡ after_last 2 last_tick
unfolding every_definition
clock_stays r R = R.state

-- A short table is refused before the last tick is; a run that has not begun, or a wrong count, before both.
pub short_first : tick (after_last 2 last_tick) [] ≡ refused 14
unfolding every_definition
short_first = refl

pub count_first : tick (after_last 65 last_tick) [] ≡ refused 15
unfolding every_definition
count_first = refl

-- Begin on a run that has begun is 16, whatever its count or the new one is.
pub begun_first : begin (after_last 65 0) 0 0 [] [] ≡ refused 16
unfolding every_definition
begun_first = refl

-- Begin's own order: 2 before 14.
pub begin_count_first : begin (record { n = 0; unbounded = 0; tick = 0; started = 2; finished = 0; start = []; finish = []; least = [] }) 65 0 [] [] ≡ refused 2
unfolding every_definition
begin_count_first = refl

-- A step numbered n or more cannot finish, though the maps have its bit.
pub finish_past_end : finish (record { n = 2; unbounded = 6; tick = 0; started = 7; finished = 1; start = replicate 64 0; finish = replicate 64 0; least = replicate 64 0 }) 2 (one_named 0) ≡ refused 17
unfolding every_definition
finish_past_end = refl

-- A run of two steps in which open step 1 has started at the tick, with the least duration.
abbrev at_work : ℕ → ℕ → ℕ → State
at_work from least clock = record { n = 2; unbounded = 2; tick = clock; started = 3; finished = 1; start = 0 ∷ from ∷ replicate 62 0; finish = replicate 64 0; least = 0 ∷ least ∷ replicate 62 0 }

-- 4,294,967,295 + 2 is above 1. At 32 bits the sum would be 1, and step 1 would end.
pub least_does_not_wrap : finish (at_work last_tick 2 1) 1 (one_named 0) ≡ refused 20
unfolding every_definition
least_does_not_wrap = refl

-- A short table is refused before 20 is, and so is a step that has finished: 17 comes first.
pub short_before_early : finish (at_work 0 8 7) 1 [] ≡ refused 14
unfolding every_definition
short_before_early = refl

pub finished_before_early : finish (record { n = 2; unbounded = 2; tick = 7; started = 3; finished = 3; start = replicate 64 0; finish = replicate 64 0; least = 0 ∷ 8 ∷ replicate 62 0 }) 1 (one_named 0) ≡ refused 17
unfolding every_definition
finished_before_early = refl

-- Begin forgets the least durations that the state had, and takes no more of those lent than there are steps.
abbrev with_nines : State
with_nines = record { n = 0; unbounded = 0; tick = 0; started = 0; finished = 0; start = []; finish = []; least = replicate 64 9 }

pub leasts_anew : (r : Dispatch) → Returns with_nines (begin with_nines 2 2 (0 ∷ 8 ∷ 5 ∷ []) (one_named 0)) r → r.state.least ≡ 0 ∷ 8 ∷ replicate 62 0
unfolding every_definition
leasts_anew r R = ap (λ (st : State). st.least) R.state

-- Begin's 14 is after 2, for the list of least durations too.
pub leasts_after_count : begin (record { n = 0; unbounded = 0; tick = 0; started = 2; finished = 0; start = []; finish = []; least = [] }) 0 0 [] (one_named 0) ≡ refused 2
unfolding every_definition
leasts_after_count = refl
