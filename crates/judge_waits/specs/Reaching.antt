-- What the waits are worked out from, held as rows of bits.
use Rattle.std.specs.Prelude.{◌≡◌, Bool, not, ◌&&◌, ◌||◌, List, ℕ, ◌<◌, eqb, length}
use Rattle.definitions.specs.Links.{Edge, late_into, members, usable}
use Rattle.definitions.specs.Rounds.{after_reaches}
use Rattle.data_relations.specs.Rows.{row_bit}
use Rattle.theory.specs.Graphs.{Shape}
use Rattle.data_relations.specs.Sets.{AnchorSets}

-- Bit a of row v: a walk that begins with a counted edge out of a reaches v, over the edges that it may use.
pub record Reaches (n : ℕ) (g : List Edge) (rows : List ℕ) : Type 0 where
  pub bits : (a v : ℕ) → v < n → row_bit rows v a ≡ after_reaches n (usable g a) a v

-- The edges of a sheet of n steps, with its rows.
pub record Known (n : ℕ) (g : List Edge) (reach sets : List ℕ) : Type 0 where
  pub shape : Shape n (members g)
  pub reaches : Reaches n g reach
  pub anchors : AnchorSets n g sets

-- A backward edge makes i wait for a: it enters i, a reaches its start and may use it, and a is not in the set of i.
abbrev pub holds_up : List ℕ → List ℕ → ℕ → ℕ → Edge → Bool
holds_up reach sets i a e = eqb i e.to && (e.back && (row_bit reach e.from a && not (late_into a e) && not (row_bit sets e.to a)))

-- The rows took in what one edge says.
pub record Held (test : ℕ → ℕ → Edge → Bool) (e : Edge) (rows rows' : List ℕ) : Type 0 where
  pub long : length rows' ≡ 64
  pub bits : (i a : ℕ) → row_bit rows' i a ≡ (row_bit rows i a || test i a e)
