-- What a sweep asks and returns.
use Rattle.std.specs.Prelude.{◌≡◌, List, ℕ, ◌*◌, ◌≤◌, length, Ok}
use Rattle.definitions.specs.Dispatcher.{sweep}
use Rattle.definitions.specs.Limits.{most_steps}
use Rattle.definitions.specs.declared.State.{State}
use Rattle.definitions.specs.declared.Dispatch.{Dispatch}

-- What a sweep asks: the table has a row for each step.
pub record Room (st : State) (table : List ℕ) : Type 0 where
  pub few : st.n ≤ most_steps
  pub long : st.n * st.n ≤ length table

-- `sweep`: the definition's progress, under the status of an accepted call.
pub record Swept (st : State) (table : List ℕ) (r : Dispatch) : Type 0 where
  pub status : r.status ≡ (Ok tt)
  pub state : r.state ≡ (sweep st table).state
  pub map : r.map ≡ (sweep st table).map
