-- Anchor sets, held as rows of bits.
use Rattle.std.specs.Prelude.{◌≡◌, ◌&&◌, List, ℕ, ltb}
use Rattle.definitions.specs.Anchors.{in_anchor_set}
use Rattle.definitions.specs.Links.{Edge}
use Rattle.data_relations.specs.Rows.{row_bit}

-- The rows are the anchor sets: bit a of row v says that a is in the set of v. No other bit stands.
pub record AnchorSets (n : ℕ) (g : List Edge) (rows : List ℕ) : Type 0 where
  pub bits : (a v : ℕ) → row_bit rows v a ≡ (ltb v n && (ltb a n && in_anchor_set n g a v))
