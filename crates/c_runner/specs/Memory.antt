-- The memory that is lent from C for a run, and what a call of the runner leaves in it.
use Rattle.std.specs.Prelude.{◌≡◌, List, [], ◌∷◌, ℕ, get_or}
use Rattle.definitions.specs.Basics.{Outcome, given, refused}
use Rattle.definitions.specs.Dispatcher.{Progress}
use Rattle.definitions.specs.declared.State.{State}
use Rattle.data_numbers.specs.Codes.{call_code}

-- All that a call may write to: the runner's state, and the map of the steps that the call starts. The words hold the step count, the map of open steps, and the maps of started and of finished steps; the tick, and the
-- start ticks, finish ticks and least durations of the 64 steps, stand beside them.
pub record Memory : Type 0 where
  pub words : List ℕ
  pub tick : ℕ
  pub start : List ℕ
  pub finish : List ℕ
  pub least : List ℕ
  pub map : ℕ

abbrev pub memory : List ℕ → ℕ → List ℕ → List ℕ → List ℕ → ℕ → Memory
memory words tick start finish least map = record { words = words; tick = tick; start = start; finish = finish; least = least; map = map }

-- The state in the memory.
abbrev pub state_in : List ℕ → ℕ → List ℕ → List ℕ → List ℕ → State
state_in words tick start finish least =
    record { n = get_or words 0 0; unbounded = get_or words 1 0; tick = tick; started = get_or words 2 0; finished = get_or words 3 0; start = start; finish = finish; least = least }

abbrev pub state_of : Memory → State
state_of m = state_in m.words m.tick m.start m.finish m.least

-- The memory that holds a state and a map.
abbrev pub words_of : State → List ℕ
words_of st = st.n ∷ st.unbounded ∷ st.started ∷ st.finished ∷ []

abbrev pub holding : State → ℕ → Memory
holding st map = memory (words_of st) st.tick st.start st.finish st.least map

-- What a call leaves: where it goes through, the state after it and the map of the steps that it started; on a refusal the memory as lent.
abbrev pub left : Memory → Outcome Progress → Memory
left lent (given g) = holding g.state g.map
left lent (refused k) = lent

-- A call on the memory that is lent returns r, and leaves the memory after it.
pub record Leaves (call : State → Outcome Progress) (lent : Memory) (r : ℕ) (after : Memory) : Type 0 where
  pub answer : r ≡ call_code (call (state_of lent))
  pub memory : after ≡ left lent (call (state_of lent))
