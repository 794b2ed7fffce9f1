-- The steps whose delays are given by a list.
use Rattle.std.specs.Prelude.{◌≡◌, Bool, cond, ◌&&◌, ◌||◌, List, ℕ, ◌<◌, ltb, get_or, length}
use Rattle.definitions.specs.Basics.{any_below, test_bit}
use Rattle.definitions.specs.Limits.{most_duration}
use Rattle.definitions.specs.Links.{least_at}
use Rattle.definitions.specs.Plan.{delays_wrong}
use Rattle.definitions.specs.declared.Operation.{Operation}
use Rattle.data_edges.specs.Serial.{leasts_in}
use Rattle.read_steps.specs.Leaving.{unbounded_at}

-- A delay is above the limit of step i or below its least, for the map of these steps and their leasts; and entry i of a list is there and is so.
abbrev pub outside : ℕ → ℕ → ℕ → ℕ → Bool
outside unbounded least i x = ltb (cond (test_bit unbounded i) most_duration 0) x || ltb x least

unfoldable pub entry_outside : ℕ → List ℕ → List ℕ → ℕ → Bool
entry_outside unbounded leasts list i = ltb i (length list) && outside unbounded (leasts_in leasts i) i (get_or list i 0)

-- Whether a list is refused: by the map and the leasts, and so by the steps of which they are.
pub record Judged (list : List ℕ) (unbounded : ℕ) (leasts : List ℕ) (n : ℕ) (bad : Bool) : Type 0 where
  pub read : bad ≡ any_below (entry_outside unbounded leasts list) n
  pub wrong : (os : List Operation) → length os ≡ n → ((i : ℕ) → i < n → test_bit unbounded i ≡ unbounded_at os i) → ((i : ℕ) → i < n → leasts_in leasts i ≡ least_at os i) → bad ≡ delays_wrong os list
