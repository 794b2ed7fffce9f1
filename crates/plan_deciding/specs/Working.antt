-- The tables that plans and start times are made from: what they stand for, and the deciding sets read off them. Here a table is what the cells of the working table say: 0 where no walk comes, w + 1 for the weight w.
use Rattle.std.specs.Prelude.{◌≡◌, Bool, true, not, ◌&&◌, List, ℕ, ◌+◌, ◌-◌, ◌<◌, ◌≤◌, eqb, leb, ltb, ℤ, get_or, length}
use Rattle.definitions.specs.Anchors.{in_anchor_set}
use Rattle.definitions.specs.Basics.{any_below, test_bit}
use Rattle.definitions.specs.Links.{Edge}
use Rattle.definitions.specs.Plan.{offset_row}
use Rattle.definitions.specs.Rounds.{cell, entry}
use Rattle.data_edges.specs.Serial.{leasts_in}
use Rattle.plan_deciding.specs.declared.Tables.{Tables}
use Rattle.walk_cells.specs.Tables.{Square, read_by}

-- What the cells of the working tables say.
abbrev pub cells_in : Tables → List (List ℕ)
cells_in t = read_by t.number.now t.cells.now

-- d and sets hold the heaviest walks and the anchor sets of the edges es: bit a of map v says whether a is in the anchor set of v, and where it is, cell a of row v of d is that of v in the row of a.
pub record Holds (n : ℕ) (es : List Edge) (d : List (List ℕ)) (sets : List ℕ) : Type 0 where
  pub cells : (a v : ℕ) → a < n → v < n → test_bit (get_or sets v 0) a ≡ true → entry d v a ≡ cell (offset_row n es a) v
  pub members : (a v : ℕ) → v < n → test_bit (get_or sets v 0) a ≡ (ltb a n && in_anchor_set n es a v)

-- An array holds the leasts of n steps.
abbrev pub HoldsLeasts : ℕ → (ℕ → ℕ) → List ℕ → Type 0
HoldsLeasts n least leasts = (a : ℕ) → a < n → leasts_in leasts a ≡ least a

-- What the heaviest walk from a to v weighs, counted from the start of a; and the offset of v for a, which counts from the end of a with the least of a apart (request L6).
abbrev pub weight : List (List ℕ) → ℕ → ℕ → ℕ
weight d v a = entry d v a - 1

abbrev pub offset_in : List (List ℕ) → List ℕ → ℕ → ℕ → ℕ
offset_in d leasts v a = weight d v a - leasts_in leasts a

abbrev pub member : List ℕ → ℕ → ℕ → Bool
member sets v a = test_bit (get_or sets v 0) a

-- The walk from a to b and that from b to v weigh as much as the walk from a to v. By offsets: that of b for a, plus the least of b, plus that of v for b, reaches that of v for a.
unfoldable pub reaching : List (List ℕ) → ℕ → ℕ → ℕ → Bool
reaching d v a b = leb (weight d v a) (weight d b a + weight d v b)

-- b, if it is a member, leaves a out.
unfoldable pub covering : List (List ℕ) → List ℕ → ℕ → ℕ → ℕ → Bool
covering d sets v a b = not (eqb b a) && member sets b a && reaching d v a b

-- The deciding set: the members that no member leaves out.
unfoldable pub deciding : List (List ℕ) → List ℕ → ℕ → ℕ → Bool
deciding d sets v a = member sets v a && not (any_below (λ b. member sets v b && covering d sets v a b) 64)

-- The table has a row for step v, and its rows are full.
pub record Row (v : ℕ) (d : List (List ℤ)) : Type 0 where
  pub below : v < 64
  pub inside : v < length d
  pub square : Square (length d) d

-- It has rows for v and for b: the way to v over b can be weighed.
pub record Ways (v b : ℕ) (d : List (List ℤ)) : Type 0 where
  pub own : Row v d
  pub over : Row b d

-- It has rows for v and for each member of its set.
pub record Rowed (v : ℕ) (sets : List ℕ) (d : List (List ℤ)) : Type 0 where
  pub own : Row v d
  pub members : (b : ℕ) → member sets v b ≡ true → b < length d

-- The cells of the members of a map are not empty.
abbrev pub Full : List (List ℕ) → ℕ → ℕ → Type 0
Full d v map = (a : ℕ) → test_bit map a ≡ true → 1 ≤ entry d v a

-- What the tables of edges that can be scheduled have at v: the cells of members are not empty, who leaves out a member leaves out what that member does, and the anchor set of step 0 has no other member.
pub record Orderly (d : List (List ℕ)) (sets : List ℕ) (v : ℕ) : Type 0 where
  pub full : Full d v (get_or sets v 0)
  pub behind : (b : ℕ) → member sets v b ≡ true → Full d b (get_or sets b 0)
  pub transitive : (a b c : ℕ) → member sets v a ≡ true → member sets v b ≡ true → member sets v c ≡ true → covering d sets v a b ≡ true → covering d sets v b c ≡ true → covering d sets v a c ≡ true
  pub source : (a : ℕ) → member sets 0 a ≡ true → a ≡ 0
