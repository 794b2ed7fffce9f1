-- The parts of a sheet's parser that the functions of the reader take over. Each is the text of the crate definitions from some line on; proofs/Parts.antt shows that they are its parts.
use Rattle.std.specs.Prelude.{ℕ, leb}
use Rattle.definitions.specs.Limits.{most_records}
use Rattle.definitions.specs.Bytes.{Parser, ◌>>=◌, ◌>>◌, give, demand, two_bytes, operations, Records}
use Rattle.read_records.specs.Parts.{last_links}

-- A sheet from its step records on, once N and R are read.
unfoldable pub sheet_records : ℕ → ℕ → Parser Records
sheet_records n r = do
  os ← operations n
  ls ← last_links n r
  give (record { steps = os; pairs = ls })

-- A sheet from R on, once N is read.
unfoldable pub sheet_counted : ℕ → Parser Records
sheet_counted n = do
  r ← two_bytes
  demand (leb r most_records) 3
  sheet_records n r
