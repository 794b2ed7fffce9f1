-- "The runner", and "From the state": the dispatcher. Of request L6: "the runner's state and Begin take the least durations along".
use Rattle.std.specs.Prelude.{◌≡◌, Bool, cond, not, ◌&&◌, ◌||◌, List, ◌++◌, ℕ, zero, suc, ◌+◌, ◌-◌, ◌*◌, ◌^◌, eqb, leb, ltb, get_or, set, take, replicate}
use Rattle.std.specs.Int.Bits.{bit_or}
use Rattle.definitions.specs.Limits.{most_steps, last_tick}
use Rattle.definitions.specs.Basics.{any_below, all_below, test_bit, bits_below, Outcome, given, refused, refuse_if}
use Rattle.definitions.specs.Plan.{undecided}
use Rattle.definitions.specs.Answers.{bad_count, too_short}
use Rattle.definitions.specs.Numbers.{status_of}
use Rattle.definitions.specs.declared.Call.{Call}
use Rattle.definitions.specs.declared.Call.TheVariants.{Begin, Tick, Finish}
use Rattle.definitions.specs.declared.State.{State}
use Rattle.definitions.specs.declared.Dispatch.{Dispatch}

-- The table's number for step v and the step a, and whether row v names a.
unfoldable pub entry : State → List ℕ → ℕ → ℕ → ℕ
entry st table v a = get_or table (v * st.n + a) 0

unfoldable pub names : State → List ℕ → ℕ → ℕ → Bool
names st table v a = not (eqb (entry st table v a) undecided)

-- a has finished, its finish tick plus its offset not above the tick.
unfoldable pub due : State → List ℕ → ℕ → ℕ → Bool
due st table v a = test_bit st.finished a && leb (get_or st.finish a 0 + entry st table v a) st.tick

-- A step not yet started starts if its row names at least one step, and each named step is due.
unfoldable pub ready : State → List ℕ → ℕ → Bool
ready st table v = not (test_bit st.started v) && any_below (names st table v) st.n && all_below (λ a. not (names st table v a) || due st table v a) st.n

-- The map of the steps that a call starts, and the start ticks with theirs in. Steps numbered N or more do not exist.
unfoldable pub starting : State → List ℕ → ℕ
starting st table = bits_below (ready st table) st.n

unfoldable pub start_ticks : State → List ℕ → ℕ → List ℕ
start_ticks st table zero = st.start
start_ticks st table (suc v) = cond (ready st table v) (set (start_ticks st table v) v st.tick) (start_ticks st table v)

-- The state after a call, and the map of the steps it started.
pub record Progress : Type 0 where
  pub state : State
  pub map : ℕ

unfoldable pub sweep : State → List ℕ → Progress
sweep st table =
    record { state = record { n = st.n; unbounded = st.unbounded; tick = st.tick; started = bit_or st.started (starting st table); finished = st.finished; start = start_ticks st table st.n; finish = st.finish; least = st.least }; map = starting st table }

-- A run has begun when step 0 has started. 15: no run has begun, or the step count is not 1 to 64.
unfoldable pub begun : State → Bool
begun st = test_bit st.started 0

unfoldable pub not_running : State → Bool
not_running st = not (begun st) || bad_count st.n

-- The least durations, "N numbers of 16 bits": the first N that are lent, and 0 past them.
unfoldable pub kept_leasts : ℕ → List ℕ → List ℕ
kept_leasts n leasts = take n leasts ++ replicate (most_steps - n) 0

-- Begin: all is set anew, tick 0, step 0 starts and finishes. It checks 16, 2, 14: the table is too short, or "a shorter list" of least durations is lent than N numbers.
unfoldable pub fresh : ℕ → ℕ → List ℕ → State
fresh n unbounded leasts =
    record { n = n; unbounded = unbounded; tick = 0; started = 1; finished = 1; start = replicate most_steps 0; finish = replicate most_steps 0; least = kept_leasts n leasts }

unfoldable pub with_source : Progress → Progress
with_source g = record { state = g.state; map = bit_or 1 g.map }

unfoldable pub begin : State → ℕ → ℕ → List ℕ → List ℕ → Outcome Progress
begin st n unbounded leasts table =
    refuse_if (begun st) 16
    (refuse_if (bad_count n) 2
    (refuse_if (too_short table (n * n) || too_short leasts n) 14
    (given (with_source (sweep (fresh n unbounded leasts) table)))))

-- Tick: the tick grows by one. It checks 15, 14, 18.
unfoldable pub ticked : State → State
ticked st = record { n = st.n; unbounded = st.unbounded; tick = st.tick + 1; started = st.started; finished = st.finished; start = st.start; finish = st.finish; least = st.least }

unfoldable pub tick : State → List ℕ → Outcome Progress
tick st table =
    refuse_if (not_running st) 15 (refuse_if (too_short table (st.n * st.n)) 14 (refuse_if (eqb st.tick last_tick) 18 (given (sweep (ticked st) table))))

-- Finish s: open step s ends at this tick. It checks 15, 14, 17, 20.
unfoldable pub cannot_finish : State → ℕ → Bool
cannot_finish st s = eqb s 0 || leb st.n s || not (test_bit st.unbounded s) || not (test_bit st.started s) || test_bit st.finished s

-- 20: the tick is below its start tick plus its least duration.
unfoldable pub too_early : State → ℕ → Bool
too_early st s = ltb st.tick (get_or st.start s 0 + get_or st.least s 0)

unfoldable pub ended : State → ℕ → State
ended st s =
    record { n = st.n; unbounded = st.unbounded; tick = st.tick; started = st.started; finished = bit_or st.finished (2 ^ s); start = st.start; finish = set st.finish s st.tick; least = st.least }

unfoldable pub finish : State → ℕ → List ℕ → Outcome Progress
finish st s table =
    refuse_if (not_running st) 15
    (refuse_if (too_short table (st.n * st.n)) 14
    (refuse_if (cannot_finish st s) 17
    (refuse_if (too_early st s) 20
    (given (sweep (ended st s) table)))))

-- A call, by its arguments. The least durations are lent beside it, for Begin alone.
unfoldable pub called : State → List ℕ → List ℕ → Call → Outcome Progress
called st table leasts (Begin n unbounded) = begin st n unbounded leasts table
called st table leasts Tick = tick st table
called st table leasts (Finish s) = finish st s table

-- What a call returns: on a refusal map 0 and the state as given.
unfoldable pub state_after : State → Outcome Progress → State
state_after st (given g) = g.state
state_after st (refused k) = st

unfoldable pub map_after : Outcome Progress → ℕ
map_after (given g) = g.map
map_after (refused k) = 0

-- A call of the dispatcher on the state st returns what the definition says: its outcome, and on a refusal its number, the state as given and map 0.
pub record Returns (st : State) (outcome : Outcome Progress) (r : Dispatch) : Type 0 where
  pub answer : status_of r.status (record { state = r.state; map = r.map }) ≡ outcome
  pub state : r.state ≡ state_after st outcome
  pub map : r.map ≡ map_after outcome
