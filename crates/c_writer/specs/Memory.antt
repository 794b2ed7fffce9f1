-- What writing a sheet returns to C, and what it leaves in the memory that is lent (request L4).
use Rattle.std.specs.Prelude.{List, ℕ}
use Rattle.definitions.specs.Writer.{parts, write_answer}
use Rattle.demands.specs.Writing.{Numbers}
use Rattle.data_numbers.specs.Codes.{CountsInto}
use Rattle.write_numbers.specs.Decoding.{records_in, steps_in}

-- The answer of the definitions for the parts that the numbers stand for; and the numbers of these parts are of two bytes, so that what is promised of the writer holds of them (demands, `Written-Read.of_call`).
pub record WritesSheet (n r : ℕ) (steps records buffer : List ℕ) (length code : ℕ) (left-buffer : List ℕ) (left-length : ℕ) : Type 0 where
  pub counted : CountsInto (write_answer n r (steps_in steps) (records_in records) buffer) length code left-buffer left-length
  pub numbers : Numbers (parts n r (steps_in steps) (records_in records))
