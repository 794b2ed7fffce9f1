-- How a cell of the working table is held: this crate alone knows it. Others go by what a cell says, its value, and by the laws of proofs/Values.antt.
-- A cell is a signed number of 32 bits: the weight of a walk, or a number below 0 where there is none.
use Rattle.std.specs.Prelude.{◌≡◌, Bool, true, false, ◌⊎◌, ℕ, suc, ◌+◌, ◌-◌, ◌≤◌, ◌<◌, ℤ, pos, negsuc}

-- What a cell says: 0 for no walk, w + 1 for the weight w.
unfoldable pub value : ℤ → ℕ
value (pos w) = suc w
value (negsuc m) = 0

-- The cell that every cell of a table begins as, and that one without a walk becomes before it is handed on: no gain leads from there to 0.
abbrev pub none : ℤ
none = negsuc 117901063

-- Sums and orders of signed numbers are told by their heights: how far they lie above a number that is below every sum of two of them. The ground is the height of 0.
abbrev pub ground : ℕ
ground = 1099511627776

unfoldable pub height : ℤ → ℕ
height (pos n) = ground + n
height (negsuc n) = ground - suc n

-- An edge gains less than this, and loses less: the word of an edge has no room for more.
abbrev pub move_limit : ℕ
move_limit = 16777216

-- The largest weight from which a cell is moved. Such a sum fits a signed number of 32 bits, whatever the edge.
abbrev pub most_weight : ℕ
most_weight = 2000000000

-- A cell that is made ready to be handed on holds a walk, or is the one that none holds.
unfoldable pub Clear : ℤ → Type 0
Clear c = (c ≡ none) ⊎ (1 ≤ value c)

-- Cells move by delta, what an edge gains less what it loses.
pub record Delta (gain loss : ℕ) (delta : ℤ) : Type 0 where
  pub sum : height delta + loss ≡ ground + gain

-- By less than the limit either way.
pub record Small (delta : ℤ) : Type 0 where
  pub gains : height delta < ground + move_limit
  pub loses : ground < height delta + move_limit

-- A cell that can be moved: made ready, and within the largest weight.
pub record Movable (c : ℤ) : Type 0 where
  pub clear : Clear c
  pub low : value c ≤ suc most_weight

-- The larger of two numbers, which is one of them.
pub record Larger (old c new : ℤ) : Type 0 where
  pub kept : height c ≤ height old → new ≡ old
  pub taken : height old < height c → new ≡ c

-- Whether a number is less than another.
pub record Compared (old c : ℤ) (less : Bool) : Type 0 where
  pub below : less ≡ true → height old < height c
  pub not_below : less ≡ false → height c ≤ height old

-- A cell rises to what another one says, moved by delta, where that is more.
pub record Risen (old c delta new : ℤ) : Type 0 where
  pub moved : ℤ
  pub sum : height moved + ground ≡ height c + height delta
  pub larger : Larger old moved new
