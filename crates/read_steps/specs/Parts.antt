-- The parts of the definitions' parser of a step record that the functions of this crate take over.
use Rattle.std.specs.Prelude.{Bool, ℕ, None, Some}
use Rattle.definitions.specs.Basics.{test_bit}
use Rattle.definitions.specs.Bytes.{Parser, ◌>>=◌, ◌>>◌, give, demand, two_bytes, ticks_if, bound_from, operation_map, delay_from}
use Rattle.definitions.specs.declared.Delay.TheVariants.{Open, Fixed}
use Rattle.definitions.specs.declared.Operation.{Operation}

-- A step record after its map m.
unfoldable pub operation_mapped : Bool → ℕ → Parser Operation
operation_mapped first m = do
  demand (operation_map first m) 4
  ticks ← ticks_if (test_bit m 1)
  least ← ticks_if (test_bit m 2)
  give (record { delay = delay_from (test_bit m 0) ticks; least = bound_from (test_bit m 2) least })

-- That of a step that lasts a fixed number of ticks, and of an open step with a least duration.
unfoldable pub fixed : Parser Operation
fixed = do
  ticks ← two_bytes
  give (record { delay = Fixed ticks; least = None })

unfoldable pub slow : Parser Operation
slow = do
  least ← two_bytes
  give (record { delay = Open; least = Some least })
