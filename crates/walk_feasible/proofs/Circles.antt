-- Walking back along the edges that were noted.
use mathlib.Core.Path.{◌≡◌, refl, sym}
use mathlib.Core.List.{List}
use Prim.Native.Nat.{ℕ, suc, ◌+◌, ◌-◌, ◌*◌, ◌≤◌, ◌<◌}
use native.Mathlib.Omega.{arith}
use lib.ListN.{get_or}
use Rattle.definitions.specs.Links.{Walk, members}
use Rattle.data_edges.specs.Words.{graph, unpack}
use Rattle.data_edges.proofs.Places.{graph_at}
use Rattle.theory.proofs.Walks.{join, walk_edge, walk_from, walk_none, walk_to}
use Rattle.walk_cells.specs.Cells.{move_limit}
use Rattle.walk_feasible.specs.Search.{Circle, Enters}

-- The walk from v to x that k steps back from x have made.
pub record Back (es : List ℕ) (x n k v gains losses : ℕ) : Type 0 where
  pub inside : k ≤ n
  pub below : v < 64
  pub light : gains ≤ move_limit * k
  pub small : losses ≤ move_limit * k
  pub walk : Walk (members (graph es)) v x k gains losses

pub back_start : (es : List ℕ) (x n : ℕ) → x < 64 → Back es x n 0 x 0 0
back_start es x n b = record { inside = omega arith; below = b; light = omega arith; small = omega arith; walk = walk_none x }

-- One edge more, before the walk.
module _ (es : List ℕ) (x n k v gains losses i : ℕ) {from gain loss : ℕ} (B : Back es x n k v gains losses) (enters : Enters es i v) (f : from ≡ (unpack (get_or es (i - 1) 0)).from) (g : gain ≡ (unpack (get_or es (i - 1) 0)).gain) (l : loss ≡ (unpack (get_or es (i - 1) 0)).loss) where
  back_walk : Walk (members (graph es)) from x (suc k) (gains + gain) (losses + loss)
  back_walk =
      let e = unpack (get_or es (i - 1) 0) in
      let edge = walk_edge {E = members (graph es)} e (graph_at es (i - 1) (omega (arith, enters.some, enters.inside))) in
      walk_from f (walk_to (join (walk_to edge enters.ends refl refl refl) B.walk) refl (omega arith) (omega arith) (omega arith))

  pub back_more : k < n → from < 64 → gain < move_limit → loss < move_limit → Back es x n (k + 1) from (gains + gain) (losses + loss)
  back_more c b p q =
      record { inside = omega arith; below = b; light = omega (arith, B.light); small = omega (arith, B.small); walk = walk_to back_walk refl (omega arith) refl refl }

  pub back_closed : from ≡ x → losses + loss < gains + gain → Circle (members (graph es))
  back_closed h c = record { x = x; k = suc k; p = gains + gain; q = losses + loss; walk = walk_from (sym h) back_walk; above = c }
