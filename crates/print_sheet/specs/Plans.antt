-- The waits of a sheet, and a table that holds its plan.
use Rattle.std.specs.Prelude.{◌≡◌, true, List, ℕ, ◌*◌, ◌≤◌, length, take}
use Rattle.definitions.specs.Answers.{count_of, leasts_of, serialized_of, waits_answer}
use Rattle.definitions.specs.Bytes.{Records}
use Rattle.definitions.specs.Plan.{plan_table}
use Rattle.demands.specs.Demands.{Accepted}

-- The bytes are a sheet that is accepted with waits allowed; its waits with their count, and its plan at the front of the table.
pub record Plans (s : List ℕ) (verdict count : ℕ) (waits table : List ℕ) : Type 0 where
  pub sheet : Records
  pub accepted : Accepted s true sheet verdict
  pub maps : waits ≡ (waits_answer s).maps
  pub counted : count ≡ (waits_answer s).count
  pub front : take (count_of sheet * count_of sheet) table ≡ plan_table (count_of sheet) (leasts_of sheet) (serialized_of sheet)
  pub room : count_of sheet * count_of sheet ≤ length table
