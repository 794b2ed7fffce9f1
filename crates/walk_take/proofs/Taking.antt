-- Rows of cells: how they are made ready.
use mathlib.Core.Path.{◌≡◌, refl}
use mathlib.Core.Bool.{false}
use mathlib.Core.Logic.{◌⊎◌, inl, inr, ◌≢◌}
use mathlib.Core.List.{List}
use Prim.Native.Nat.{ℕ, suc, ◌+◌, ◌-◌, ◌%◌, ◌≤◌, ◌<◌}
use native.Mathlib.Omega.{arith}
use lib.Bits.{bit_or}
use lib.Dec.{ltb}
use lib.IntN.{ℤ}
use lib.ListN.{length}
use borrow.Author.Tests.{ltb-false}
use Rattle.laws.proofs.Bools.{same_or_not}
use Rattle.laws.proofs.Maps.{or_above}
use Rattle.walk_cells.specs.Cells.{Movable, value}
use Rattle.walk_cells.specs.Tables.{cell_of}
use Rattle.walk_take.specs.Rows.{CopiedCell, Takeable, Taken, Trimmed}

-- The cells below n are made ready.
pub record Copied (cells row : List ℤ) (n : ℕ) : Type 0 where
  pub long : length row ≡ 64
  pub each : (j : ℕ) → j < n → Movable (cell_of row j)
  pub same : (j : ℕ) → j < n → value (cell_of row j) ≡ value (cell_of cells j)

-- None of them weighs more than b.
abbrev pub Bound : List ℤ → ℕ → ℕ → Type 0
Bound cells n b = (j : ℕ) → j < n → value (cell_of cells j) ≤ suc b

-- The loop: so far nothing, and a turn makes one more cell ready.
pub copied_start : (cells row : List ℤ) → length row ≡ 64 → Copied cells row 0
copied_start cells row long = record { long = long; each = λ j l. absurd (omega arith); same = λ j l. absurd (omega arith) }

module _ {cells row row' : List ℤ} {k w : ℕ} (next : ℕ) (is : next ≡ k + 1) (C : CopiedCell cells row row' k w) where
  pub copied_turn : Copied cells row k → Copied cells row' next
  copied_turn T = record { long = C.long; each = λ j l. each j l (same_or_not j k); same = λ j l. same j l (same_or_not j k) }
    where
      each : (j : ℕ) → j < next → (j ≡ k) ⊎ (j ≢ k) → Movable (cell_of row' j)
      each j l (inl e) = rw e C.movable
      each j l (inr o) = rw (C.keeps j o) (T.each j (omega (arith, o)))

      same : (j : ℕ) → j < next → (j ≡ k) ⊎ (j ≢ k) → value (cell_of row' j) ≡ value (cell_of cells j)
      same j l (inl e) = rw e C.same
      same j l (inr o) = rw (C.keeps j o) (T.same j (omega (arith, o)))

  pub bound_turn : (b : ℕ) → w ≤ b → Bound cells k b → Bound cells next b
  bound_turn b few B j l = by (same_or_not j k)
    where
      by : (j ≡ k) ⊎ (j ≢ k) → value (cell_of cells j) ≤ suc b
      by (inl e) = rw e (omega (arith, C.weighs))
      by (inr o) = B j (omega (arith, o))

-- A turn makes four cells ready, and gathers their bounds in four numbers.
abbrev pub Gathered : List ℤ → ℕ → ℕ → ℕ → ℕ → ℕ → Type 0
Gathered cells n t₀ t₁ t₂ t₃ = (b : ℕ) → t₀ ≤ b → t₁ ≤ b → t₂ ≤ b → t₃ ≤ b → Bound cells n b

module _ {cells row row₁ row₂ row₃ row₄ : List ℤ} {k w₀ w₁ w₂ w₃ : ℕ} (C₀ : CopiedCell cells row row₁ k w₀) (C₁ : CopiedCell cells row₁ row₂ (k + 1) w₁) (C₂ : CopiedCell cells row₂ row₃ (k + 2) w₂) (C₃ : CopiedCell cells row₃ row₄ (k + 3) w₃) where
  pub copied_four : Copied cells row k → Copied cells row₄ (k + 4)
  copied_four T = copied_turn (k + 4) (omega arith) C₃ (copied_turn (k + 3) (omega arith) C₂ (copied_turn (k + 2) (omega arith) C₁ (copied_turn (k + 1) refl C₀ T)))

  pub gathered_four : (t₀ t₁ t₂ t₃ : ℕ) → Gathered cells k t₀ t₁ t₂ t₃ → Gathered cells (k + 4) (bit_or t₀ w₀) (bit_or t₁ w₁) (bit_or t₂ w₂) (bit_or t₃ w₃)
  gathered_four t₀ t₁ t₂ t₃ G b l₀ l₁ l₂ l₃ =
      let a₀ = or_above t₀ w₀ in
      let a₁ = or_above t₁ w₁ in
      let a₂ = or_above t₂ w₂ in
      let a₃ = or_above t₃ w₃ in
      let b₀ = bound_turn (k + 1) refl C₀ b (omega arith) (G b (omega arith) (omega arith) (omega arith) (omega arith)) in
      let b₁ = bound_turn (k + 2) (omega arith) C₁ b (omega arith) b₀ in
      let b₂ = bound_turn (k + 3) (omega arith) C₂ b (omega arith) b₁ in
      bound_turn (k + 4) (omega arith) C₃ b (omega arith) b₂

-- The next cell of a row, of which so many are made ready.
pub takeable_turn : {u width : ℕ} {d : List (List ℤ)} {row row' : List ℤ} (k : ℕ) → k < width → Takeable u width d row → length row' ≡ 64 → Takeable u (k + 1) d row'
takeable_turn k b p long =
    record { target = record { row = p.target.row; few = omega (arith, p.target.few); square = p.target.square }; low = p.low; long = long }

-- Its end: what was gathered in four numbers is put together.
pub taken_end : {cells row : List ℤ} {n : ℕ} (t₀ t₁ t₂ t₃ : ℕ) → n % 4 ≡ 0 → Copied cells row n → Gathered cells n t₀ t₁ t₂ t₃ → Taken cells row n (bit_or (bit_or (bit_or t₀ t₁) t₂) t₃)
taken_end t₀ t₁ t₂ t₃ fours T most =
    let first = or_above t₀ t₁ in
    let second = or_above (bit_or t₀ t₁) t₂ in
    let third = or_above (bit_or (bit_or t₀ t₁) t₂) t₃ in
    let tops = most (bit_or (bit_or (bit_or t₀ t₁) t₂) t₃) (omega arith) (omega arith) (omega arith) (omega arith) in
    record { ready = record { movable = record { long = T.long; fours = fours; each = T.each }; tops = λ j l. omega (arith, tops j l, T.same j l) }; same = T.same }

-- A column whose cell holds no walk is left out.
pub trimmed_turn : (cells : List ℤ) (width w : ℕ) → Trimmed cells width w → 1 ≤ w → ltb 0 (value (cell_of cells (w - 1))) ≡ false → Trimmed cells width (w - 1)
trimmed_turn cells width w T some low = record { fits = omega (arith, T.fits); none = λ k b l. by k b l (same_or_not k (w - 1)) }
  where
    by : (k : ℕ) → w - 1 ≤ k → k < width → (k ≡ w - 1) ⊎ (k ≢ w - 1) → value (cell_of cells k) ≡ 0
    by k b l (inl e) = rw e (omega (arith, ltb-false 0 (value (cell_of cells (w - 1))) low))
    by k b l (inr o) = T.none k (omega (arith, o)) l
