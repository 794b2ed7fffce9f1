-- What the counts of a plan are asked for, and what they give. A plan is a list of n × n numbers, unbounded the map of step 0 and the open steps.
use Rattle.std.specs.Prelude.{◌≡◌, Bool, ◌&&◌, List, ◌++◌, ℕ, ◌*◌, ◌<◌, ◌≤◌, leb, length, drop}
use Rattle.definitions.specs.Basics.{sum_below, tabulate, test_bit}
use Rattle.definitions.specs.Limits.{most_steps, most_ticks, register_entries}
use Rattle.definitions.specs.Price.{largest_offset}

-- A plan of n steps; one of its steps; one of its entries; numbers for a count of each step.
pub record Planned (n : ℕ) (plan : List ℕ) : Type 0 where
  pub few : n ≤ most_steps
  pub long : n * n ≤ length plan

pub record StepThere (n a : ℕ) (plan : List ℕ) : Type 0 where
  pub planned : Planned n plan
  pub step : a < n

pub record EntryThere (n v a : ℕ) (plan : List ℕ) : Type 0 where
  pub planned : Planned n plan
  pub row : v < n
  pub column : a < n

pub record Room (n : ℕ) (plan list : List ℕ) : Type 0 where
  pub planned : Planned n plan
  pub room : n ≤ length list

-- 19 for one step.
unfoldable pub is_large : ℕ → ℕ → List ℕ → ℕ → Bool
is_large unbounded n plan a = test_bit unbounded a && leb register_entries (largest_offset n plan a)

-- A count, which is a number of two bytes, so that the counts of all steps have a sum of four.
pub record Counted (count r : ℕ) : Type 0 where
  pub value : r ≡ count
  pub small : r ≤ most_ticks

-- The counts f of n steps stand at the front of the lent numbers, those past them are as lent, and their sum is returned.
pub record Filled (f : ℕ → ℕ) (n : ℕ) (lent : List ℕ) (r : ℕ) (after : List ℕ) : Type 0 where
  pub list : after ≡ tabulate f n ++ drop n lent
  pub total : r ≡ sum_below f n
