-- What the writers of this crate put into a lent buffer.
use Rattle.std.specs.Prelude.{◌≡◌, List, ◌++◌, ℕ, length, get_or, drop}
use Rattle.definitions.specs.Output.{field, newline, word_refused}
use Rattle.data_buffers.specs.Texts.{texts}

-- The field of number i, and the fields of all numbers, one after the other.
abbrev pub field_at : List ℕ → ℕ → List ℕ
field_at numbers i = field (get_or numbers i 0)

abbrev pub fields : List ℕ → List ℕ
fields numbers = texts (field_at numbers) (length numbers)

-- A line of a word and numbers.
unfoldable pub line : List ℕ → List ℕ → List ℕ
line word numbers = word ++ fields numbers ++ newline

-- A line of a word and a number, and that of a refusal.
unfoldable pub heading : List ℕ → ℕ → List ℕ
heading word x = word ++ field x ++ newline

unfoldable pub refusal_text : ℕ → List ℕ
refusal_text k = heading word_refused k

-- Room for every refusal: its word has 7 bytes, its number at most ten digits, and there are a space and a newline.
abbrev pub refusal_room : ℕ
refusal_room = 19

-- The promise of a function that writes from the front: what it returns is the text's length, and what lies past the text stays.
pub record Printed (text : List ℕ) (size : ℕ) (old new : List ℕ) : Type 0 where
  pub long : size ≡ length text
  pub bytes : new ≡ text ++ drop (length text) old
