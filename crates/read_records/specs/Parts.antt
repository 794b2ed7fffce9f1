-- The part of the definitions' parser of a sheet that `read_links` takes over.
use Rattle.std.specs.Prelude.{List, ℕ}
use Rattle.definitions.specs.Bytes.{Parser, ◌>>=◌, ◌>>◌, give, links, at_end}
use Rattle.definitions.specs.declared.Link.{Link}

-- The link records up to the end of the bytes.
unfoldable pub last_links : ℕ → ℕ → Parser (List Link)
last_links n r = do
  ls ← links n r
  at_end
  give ls
