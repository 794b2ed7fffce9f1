-- How a row takes in the cells of another.
use mathlib.Core.Path.{◌≡◌, refl, sym, ap, ◌∙◌}
use mathlib.Core.Bool.{Bool, true, false, not, ◌&&◌, ◌||◌}
use mathlib.Core.Logic.{◌⊎◌, inl, inr, ◌≢◌}
use mathlib.Core.List.{List, []}
use Prim.Native.Nat.{ℕ, ◌+◌, ◌<◌}
use native.Mathlib.Omega.{arith}
use lib.Bits.{bit_or}
use lib.Dec.{eqb}
use lib.IntN.{ℤ, pos}
use lib.ListN.{length, get_or, set}
use mir.Facts.{Fits-of_z, Fits-or, of_z-to_z, to_z-of_z}
use mir.Syntax.{w32}
use mir.Val.{Fits, SFits, of_z, to_z}
use borrow.Author.Tests.{eq-eqb, eqb-true, not-false}
use Rattle.definitions.specs.Basics.{test_bit}
use Rattle.laws.proofs.Bools.{both_ways, or_left, same_or_not}
use Rattle.laws.proofs.Maps.{or_above}
use Rattle.walk_cells.specs.Cells.{Risen}
use Rattle.walk_cells.specs.Tables.{Square, Target, cell_at, cell_of}
use Rattle.walk_cells.proofs.Heights.{back, no_bits}
use Rattle.walk_cells.proofs.Tables.{square_own, square_stored, square_then, stored_beside, stored_here, stored_other}
use Rattle.walk_lift.specs.Lifts.{Liftable, LiftableCell, Lifted, Raised, Still}

-- One cell is stored to, risen to what moves there.
module _ (to k : ℕ) (delta new : ℤ) (row : List ℤ) (d : List (List ℤ)) (T : Target to (k + 1) d) where
  abbrev S : Square (length d) d
  S = T.square

  abbrev inside : k < 64
  inside = omega (arith, T.few)

  pub lifted_cell : Risen (cell_at d to k) (cell_of row k) delta new → Lifted (λ j. j ≡ k) to delta row d (set d to (set (get_or d to []) k new))
  lifted_cell R = record {
    square = square_stored d to k new S T.row inside;
    lifts = λ j e. rw (e, stored_here d to k new S T.row inside) R;
    keeps = λ j o. stored_beside d to k new S T.row inside j o;
    other = λ v j o. stored_other d to k new S T.row inside v j o;
  }

  pub still_cell : new ≡ cell_at d to k → Still to d (set d to (set (get_or d to []) k new))
  still_cell old j = by (same_or_not j k)
    where
      by : (j ≡ k) ⊎ (j ≢ k) → cell_at (set d to (set (get_or d to []) k new)) to j ≡ cell_at d to j
      by (inl e) = rw e (stored_here d to k new S T.row inside ∙ old)
      by (inr o) = stored_beside d to k new S T.row inside j o

-- The loop over the columns: so far nothing, and a turn lifts the cell of one more column.
pub lifted_start : (to : ℕ) (delta : ℤ) (row : List ℤ) (d : List (List ℤ)) → Square (length d) d → Lifted (λ k. k < 0) to delta row d d
lifted_start to delta row d S =
    record { square = S; lifts = λ k l. absurd (omega arith); keeps = λ k o. refl; other = λ v k o. refl }

pub lifted_turn : {to : ℕ} {delta : ℤ} {k : ℕ} {row : List ℤ} {d₀ d d' : List (List ℤ)} (next : ℕ) → next ≡ k + 1 → Lifted (λ j. j < k) to delta row d₀ d → Lifted (λ j. j ≡ k) to delta row d d' → Lifted (λ j. j < next) to delta row d₀ d'
lifted_turn {to} {delta} {k} {row} {d₀} {d} {d'} next is L C = record {
  square = square_then L.square C.square;
  lifts = λ j l. lifts j l (same_or_not j k);
  keeps = λ j o. C.keeps j (λ e. o (omega arith)) ∙ L.keeps j (λ l. o (omega arith));
  other = λ v j o. C.other v j o ∙ L.other v j o;
}
  where
    lifts : (j : ℕ) → j < next → (j ≡ k) ⊎ (j ≢ k) → Risen (cell_at d₀ to j) (cell_of row j) delta (cell_at d' to j)
    lifts j l (inl e) = rw (← L.keeps j (λ q. omega arith)) (C.lifts j e)
    lifts j l (inr o) = rw (C.keeps j o) (L.lifts j (omega (arith, o)))

-- A turn lifts the cells of four columns.
pub lifted_four : {to : ℕ} {delta : ℤ} {k : ℕ} {row : List ℤ} {d₀ d d₁ d₂ d₃ d₄ : List (List ℤ)} → Lifted (λ j. j < k) to delta row d₀ d → Lifted (λ j. j ≡ k) to delta row d d₁ → Lifted (λ j. j ≡ k + 1) to delta row d₁ d₂ → Lifted (λ j. j ≡ k + 2) to delta row d₂ d₃ → Lifted (λ j. j ≡ k + 3) to delta row d₃ d₄ → Lifted (λ j. j < k + 4) to delta row d₀ d₄
lifted_four {k = k} L C₁ C₂ C₃ C₄ =
    lifted_turn (k + 4) (omega arith) (lifted_turn (k + 3) (omega arith) (lifted_turn (k + 2) (omega arith) (lifted_turn (k + 1) refl L C₁) C₂) C₃) C₄

-- The next column of a table that was lifted so far, by delta as the machine reads it.
pub liftable_turn : {to width : ℕ} {delta : ℤ} {row : List ℤ} {d₀ d : List (List ℤ)} (k : ℕ) → k < width → SFits w32 delta → Liftable to width delta row d₀ → Square (length d₀) d → LiftableCell to k (back delta) row d
liftable_turn k b f T S = rw (to_z-of_z f) (record {
  target = record { row = omega (arith, T.target.row, S.rows); few = omega (arith, T.target.few); square = square_own S };
  long = T.movable.long;
  movable = T.movable.each k b;
  small = T.small;
})

no_number : (g : ℕ) → g ≡ 0 → to_z w32 g ≡ pos 0
no_number g e = ap (to_z w32) e

-- How cells changed is gathered: where nothing is, nothing was before, and the row stayed.
pub none_noted : {A : Type 0} (g : ℕ) {c : ℤ} → Fits w32 g → SFits w32 c → (c ≡ pos 0 → A) → to_z w32 (bit_or g (of_z w32 c)) ≡ pos 0 → (to_z w32 g ≡ pos 0) × A
none_noted g {c} b f still e =
    let above = or_above g (of_z w32 c) in
    let nothing : bit_or g (of_z w32 c) ≡ 0 = sym (of_z-to_z (Fits-or b (Fits-of_z f))) ∙ ap (of_z w32) e in
    (no_number g (omega arith), still (no_bits f (omega arith)))

-- Four such gatherings are put together at the end.
pub all_none : {A : Type 0} (g₀ g₁ g₂ g₃ : ℕ) → not (eqb (bit_or (bit_or (bit_or g₀ g₁) g₂) g₃) 0) ≡ false → (to_z w32 g₀ ≡ pos 0 → to_z w32 g₁ ≡ pos 0 → to_z w32 g₂ ≡ pos 0 → to_z w32 g₃ ≡ pos 0 → A) → A
all_none g₀ g₁ g₂ g₃ e known =
    let nothing : bit_or (bit_or (bit_or g₀ g₁) g₂) g₃ ≡ 0 = eqb-true _ _ (not-false _ e) in
    let first = or_above g₀ g₁ in
    let second = or_above (bit_or g₀ g₁) g₂ in
    let third = or_above (bit_or (bit_or g₀ g₁) g₂) g₃ in
    known (no_number g₀ (omega arith)) (no_number g₁ (omega arith)) (no_number g₂ (omega arith)) (no_number g₃ (omega arith))

-- Marks: a row that has one may change,
pub raised_marked : {On : ℕ → Type 0} {to : ℕ} {delta : ℤ} {row : List ℤ} {d d' : List (List ℤ)} {m : ℕ} → test_bit m to ≡ true → Lifted On to delta row d d' → Raised On to delta row d d' m m
raised_marked {to = to} {d = d} {d' = d'} {m = m} has L =
    record { lifted = L; marks = λ v q. q; marked = λ v k q. L.other v k (λ e. both_ways has (ap (test_bit m) (sym e) ∙ q)) }

-- and one that changes gets one.
pub raised_noting : {On : ℕ → Type 0} {to : ℕ} {delta : ℤ} {row : List ℤ} {d d' : List (List ℤ)} {m m' : ℕ} (grew : Bool) → ((j : ℕ) → test_bit m' j ≡ (test_bit m j || (grew && eqb j to))) → Lifted On to delta row d d' → (grew ≡ false → Still to d d') → Raised On to delta row d d' m m'
raised_noting {to = to} {d = d} {d' = d'} {m = m} {m' = m'} grew bits L still =
    record { lifted = L; marks = λ v q. bits v ∙ or_left (grew && eqb v to) q; marked = λ v k q. by v k q (same_or_not v to) }
  where
    not_grown : (x g : Bool) {y : Bool} → y ≡ true → (x || (g && y)) ≡ false → g ≡ false
    not_grown true g q h = absurd (both_ways refl h)
    not_grown false true q h = absurd (both_ways q h)
    not_grown false false q h = refl

    by : (v k : ℕ) → test_bit m' v ≡ false → (v ≡ to) ⊎ (v ≢ to) → cell_at d' v k ≡ cell_at d v k
    by v k q (inl e) = rw e (still (not_grown (test_bit m v) grew (eq-eqb v to e) (sym (bits v) ∙ q)) k)
    by v k q (inr o) = L.other v k o
