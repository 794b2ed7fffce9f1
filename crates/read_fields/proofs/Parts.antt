-- What the parsers of fields find at a place of the bytes, case by case. Each law is the parser's text, computed at the bytes that are there.
use mathlib.Core.Path.{◌≡◌, refl}
use mathlib.Core.Bool.{Bool, true, false}
use mathlib.Core.List.{List}
use Prim.Native.Nat.{ℕ, ◌+◌, ◌≤◌, ◌<◌}
use native.Mathlib.Omega.{arith}
use native.Mathlib.Decide.{dec_lt}
use lib.ListN.{length, drop}
use Rattle.definitions.specs.Basics.{refused, when_given}
use Rattle.definitions.specs.Bytes.{byte, two_bytes, ticks_if}
use Rattle.laws.proofs.Parsers.{drop_byte, drop_end}
use Rattle.read_fields.specs.Answers.{item_at, number_at, field_at, field_end}

-- A field does not end before it begins.
pub field_forth : (at : ℕ) (there : Bool) → at ≤ field_end at there
field_forth at true = omega arith
field_forth at false = omega arith

module _ (s : List ℕ) (at : ℕ) where
  -- A number of two bytes: both are there, or one, or none.
  pub number_there : at + 2 ≤ length s → two_bytes (drop at s) ≡ item_at s (number_at s at) (at + 2)
  unfolding two_bytes byte when_given number_at
  number_there h = let two : at + 1 + 1 ≡ at + 2 = omega arith in rw (drop_byte s at (omega arith), drop_byte s (at + 1) (omega arith), two)

  pub number_none : length s < at + 2 → two_bytes (drop at s) ≡ refused 1
  unfolding two_bytes byte when_given
  number_none h = go (dec_lt at (length s))
    where
      go : Dec (at < length s) → two_bytes (drop at s) ≡ refused 1
      go (yes half) = rw (drop_byte s at half, drop_end s (at + 1) (omega arith))
      go (no none) = rw (drop_end s at (omega arith))

  -- A field: it ends within the bytes, or is cut off.
  pub field_there : (there : Bool) → field_end at there ≤ length s → ticks_if there (drop at s) ≡ item_at s (field_at s at there) (field_end at there)
  unfolding ticks_if
  field_there true h = number_there h
  field_there false h = refl

  pub field_cut : (there : Bool) → at ≤ length s → length s < field_end at there → ticks_if there (drop at s) ≡ refused 1
  unfolding ticks_if
  field_cut true inside h = number_none h
  field_cut false inside h = absurd (omega arith)
