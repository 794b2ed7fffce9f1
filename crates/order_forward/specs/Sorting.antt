-- What is found of a sheet's edges for refusal 8, and the anchor sets, drawn along the order of the steps. Rows are of the steps' anchors: bit a of row v.
use Rattle.std.specs.Prelude.{◌≡◌, Bool, true, not, ◌&&◌, ◌||◌, List, ℕ, ◌<◌, ◌≤◌, eqb, get_or, length, replicate}
use Rattle.definitions.specs.Answers.{closes_circle}
use Rattle.definitions.specs.Basics.{any, any_below}
use Rattle.definitions.specs.Limits.{most_steps}
use Rattle.definitions.specs.Links.{Edge}
use Rattle.order_steps.specs.Orders.{Ordered, counts_into}
use Rattle.data_relations.specs.Rows.{row_bit}
use Rattle.data_relations.specs.Sets.{AnchorSets}

-- The anchors that come to each step along one edge. Step 0 is in its own set.
pub record Adjoined (g : List Edge) (rows : List ℕ) : Type 0 where
  pub long : length rows ≡ 64
  pub bits : (v a : ℕ) → row_bit rows v a ≡ (any (counts_into v a) g || (eqb v 0 && eqb a 0))

-- What rows are drawn along: an order of n steps, and what comes right before each.
pub record Drawable (n : ℕ) (before order rows : List ℕ) : Type 0 where
  pub few : n ≤ most_steps
  pub ordered : Ordered n before order
  pub long : length rows ≡ 64

-- Each row of n has what it had, and what the rows of the steps right before it have in the end.
pub record Drawn (n : ℕ) (before own rows : List ℕ) : Type 0 where
  pub long : length rows ≡ 64
  pub bits : (v a : ℕ) → v < n → row_bit rows v a ≡ (row_bit own v a || any_below (λ u. row_bit before v u && row_bit rows u a) 64)
  pub past : (v : ℕ) → n ≤ v → get_or rows v 0 ≡ get_or own v 0

-- What is lent to sort: a sheet's step count, blank rows, and an order to be filled.
pub record Sortable (n : ℕ) (sets order : List ℕ) : Type 0 where
  pub some : 1 ≤ n
  pub few : n ≤ most_steps
  pub blank : sets ≡ replicate 64 0
  pub long : length order ≡ 64

-- The test of the definitions; where 8 does not apply, the rows are the anchor sets.
pub record Sorting (n : ℕ) (g : List Edge) (sets : List ℕ) (r : Bool) : Type 0 where
  pub passes : r ≡ not (closes_circle n g)
  pub found : r ≡ true → AnchorSets n g sets
