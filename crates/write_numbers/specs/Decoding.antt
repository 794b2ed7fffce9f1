-- The parts of a sheet as numbers of 16 bits, for callers that cannot hand over the types (request L4): two numbers for each step, its map and its ticks; and seven for each link record, its map, i, j, at least,
-- at most, the gap, at most from the finish. A field whose bit does not stand is not looked at. Every list of numbers means parts: what is no map is a part that is refused 4, and what is no step is refused 5.
use Rattle.std.specs.Prelude.{cond, false, List, ℕ, ◌+◌, ◌*◌, ◌/◌, min, leb, get_or, length, Some}
use Rattle.definitions.specs.Basics.{tabulate, test_bit}
use Rattle.definitions.specs.Bytes.{bound_from, delay_from, operation_map}
use Rattle.definitions.specs.Clashes.{blank_link}
use Rattle.definitions.specs.declared.Delay.TheVariants.{Fixed}
use Rattle.definitions.specs.declared.Link.{Link}
use Rattle.definitions.specs.declared.Operation.{Operation}

-- The maps of a step are those of the format: 0 lasts 0 ticks, 1 is open, 2 lasts the ticks, 5 is open and lasts at least the ticks. Any other is a step that is refused wherever it stands: fixed, with a least.
abbrev pub wrong_step : Operation
wrong_step = record { delay = Fixed 0; least = Some 0 }

unfoldable pub step_from : ℕ → ℕ → Operation
step_from m ticks = cond (operation_map false m) (record { delay = delay_from (test_bit m 0) (cond (test_bit m 1) ticks 0); least = bound_from (test_bit m 2) ticks }) wrong_step

-- The bits of a record's map are those of the format. A map with another bit is a record with no link. A number above 255 is 255, which is no step.
abbrev pub end_from : ℕ → ℕ
end_from i = min i 255

unfoldable pub record_from : ℕ → ℕ → ℕ → ℕ → ℕ → ℕ → ℕ → Link
record_from m i j least most gap latest = cond (leb m 31) (record {
  from = end_from i;
  to = end_from j;
  sequencing = test_bit m 0;
  minimum = bound_from (test_bit m 1) least;
  maximum = bound_from (test_bit m 2) most;
  gap = bound_from (test_bit m 3) gap;
  latest = bound_from (test_bit m 4) latest;
}) blank_link

-- Step k and record k, and all that are there whole.
unfoldable pub step_at : List ℕ → ℕ → Operation
step_at numbers k = step_from (get_or numbers (2 * k) 0) (get_or numbers (2 * k + 1) 0)

unfoldable pub record_at : List ℕ → ℕ → Link
record_at numbers k =
    record_from (get_or numbers (7 * k) 0) (get_or numbers (7 * k + 1) 0) (get_or numbers (7 * k + 2) 0) (get_or numbers (7 * k + 3) 0) (get_or numbers (7 * k + 4) 0) (get_or numbers (7 * k + 5) 0) (get_or numbers (7 * k + 6) 0)

unfoldable pub steps_in : List ℕ → List Operation
steps_in numbers = tabulate (step_at numbers) (length numbers / 2)

unfoldable pub records_in : List ℕ → List Link
records_in numbers = tabulate (record_at numbers) (length numbers / 7)
