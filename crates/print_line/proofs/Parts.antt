-- A line, part by part: where there is room for a line, there is room for what it begins with.
use mathlib.Core.Path.{◌≡◌, refl}
use mathlib.Core.List.{List, ◌++◌}
use Prim.Native.Nat.{ℕ, ◌+◌, ◌≤◌}
use lib.ListN.{length}
use Rattle.definitions.specs.Output.{newline}
use Rattle.print_line.specs.Texts.{fields, line}
use Rattle.data_buffers.proofs.Writing.{left_room}

module _ (word numbers : List ℕ) where
  pub line_parts : word ++ fields numbers ++ newline ≡ line word numbers
  unfolding line
  line_parts = refl

  module _ (at m : ℕ) (room : at + length (line word numbers) ≤ m) where
    pub line_all_room : at + length (word ++ fields numbers ++ newline) ≤ m
    unfolding line
    line_all_room = room

    pub line_fields_room : at + length (word ++ fields numbers) ≤ m
    line_fields_room = left_room at (word ++ fields numbers) newline m line_all_room

    pub line_word_room : at + length word ≤ m
    line_word_room = left_room at word (fields numbers) m line_fields_room
