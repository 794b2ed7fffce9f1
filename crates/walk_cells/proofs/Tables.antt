-- Tables whose cells are stored to.
use mathlib.Core.Path.{◌≡◌, refl, sym, ap, ◌∙◌}
use mathlib.Core.Logic.{◌⊎◌, inl, inr, ◌≢◌}
use mathlib.Core.List.{List, [], ◌∷◌, map}
use Prim.Native.Nat.{ℕ, zero, suc, ◌≤◌, ◌<◌, ◌^◌}
use native.Mathlib.Omega.{arith}
use lib.IntN.{ℤ, pos}
use lib.ListN.{length, get_or, set, length-map, length-set}
use lib.Signed.{mag}
use mir.Facts.{to_z-of_z}
use lib.Seq.{get_or-set_same, get_or-set_other}
use Rattle.definitions.specs.Rounds.{entry}
use Rattle.laws.proofs.Bools.{same_or_not}
use Rattle.laws.proofs.Tests.{tabulate_at}
use Rattle.walk_cells.proofs.Heights.{back}
use Rattle.walk_cells.specs.Cells.{none, value}
use Rattle.walk_cells.specs.Tables.{Held, Square, cell_at, cell_of, column_of, read_by, said}

-- The rows of a table are as many as it has; and one table after another has as many as the first.
pub square_own : {n : ℕ} {d : List (List ℤ)} → Square n d → Square (length d) d
square_own S = record { rows = refl; cells = λ v b. S.cells v (omega (arith, S.rows)) }

pub square_then : {n : ℕ} {d d' : List (List ℤ)} → Square n d → Square (length d) d' → Square n d'
square_then S T = record { rows = T.rows ∙ S.rows; cells = λ v b. T.cells v (omega (arith, S.rows)) }

-- One cell is stored to: it has what was stored, and every other cell is as it was.
module _ {n : ℕ} (d : List (List ℤ)) (v k : ℕ) (c : ℤ) (S : Square n d) (h : v < n) (b : k < 64) where
  pub square_stored : Square n (set d v (set (get_or d v []) k c))
  square_stored = record { rows = length-set d v _ ∙ S.rows; cells = λ u l. go u l (same_or_not u v) }
    where
      go : (u : ℕ) → u < n → (u ≡ v) ⊎ (u ≢ v) → length (get_or (set d v (set (get_or d v []) k c)) u []) ≡ 64
      go u l (inl e) =
          rw e
          (ap length (get_or-set_same d v (set (get_or d v []) k c) [] (omega (arith, S.rows))) ∙ length-set (get_or d v []) k c ∙ S.cells v h)
      go u l (inr e) = ap length (get_or-set_other d v u (set (get_or d v []) k c) [] e) ∙ S.cells u l

  row_stored : get_or (set d v (set (get_or d v []) k c)) v [] ≡ set (get_or d v []) k c
  row_stored = get_or-set_same d v (set (get_or d v []) k c) [] (omega (arith, S.rows))

  pub stored_here : cell_at (set d v (set (get_or d v []) k c)) v k ≡ c
  stored_here = ap (λ (row : List ℤ). cell_of row k) row_stored ∙ get_or-set_same (get_or d v []) k c none (omega (arith, S.cells v h))

  pub stored_beside : (j : ℕ) → j ≢ k → cell_at (set d v (set (get_or d v []) k c)) v j ≡ cell_at d v j
  stored_beside j o = ap (λ (row : List ℤ). cell_of row j) row_stored ∙ get_or-set_other (get_or d v []) k j c none o

  pub stored_other : (w j : ℕ) → w ≢ v → cell_at (set d v (set (get_or d v []) k c)) w j ≡ cell_at d w j
  stored_other w j o = ap (λ (row : List ℤ). cell_of row j) (get_or-set_other d v w (set (get_or d v []) k c) [] o)

-- What a cell of a table says.
said_row : (row : List ℤ) (k : ℕ) → get_or (map value row) k 0 ≡ value (cell_of row k)
unfolding value
said_row [] k = refl
said_row (c ∷ row) zero = refl
said_row (c ∷ row) (suc k) = said_row row k

pub said_at : (d : List (List ℤ)) (v k : ℕ) → entry (said d) v k ≡ value (cell_at d v k)
unfolding said value
said_at [] v k = refl
said_at (row ∷ d) zero k = said_row row k
said_at (row ∷ d) (suc v) k = said_at d v k

pub said_length : (d : List (List ℤ)) → length (said d) ≡ length d
unfolding said
said_length d = length-map d (map value)

-- And what the cell in an anchor's column says.
pub read_by_at : (number : List ℕ) (d : List (List ℤ)) (v a : ℕ) → a < 64 → entry (read_by number d) v a ≡ value (cell_at d v (column_of number a))
unfolding read_by value
read_by_at number [] v a h = refl
read_by_at number (row ∷ d) zero a h = tabulate_at (λ b. value (cell_of row (column_of number b))) 64 a 0 h
read_by_at number (row ∷ d) (suc v) a h = read_by_at number d v a h

-- A bound on what cells say, made larger.
pub held_more : {w x : ℕ} {d : List (List ℤ)} → w ≤ x → Held w d → Held x d
held_more l H = record { most = λ v k. omega (arith, H.most v k) }

-- A place that a row has is read there, whatever stands for places that it has not.
pub cell_in : (row : List ℤ) (k : ℕ) → k < length row → get_or row k (pos 0) ≡ cell_of row k
cell_in [] k h = absurd (omega arith)
cell_in (c ∷ row) zero h = refl
cell_in (c ∷ row) (suc k) h = cell_in row k (omega arith)

-- A cell of a table that has it, as the machine reads it, says what is said there.
module _ {n : ℕ} (d : List (List ℤ)) (S : Square n d) {v k : ℕ} (row : v < n) (column : k < 64) where
  abbrev read : ℤ
  read = get_or (get_or d v []) k (pos 0)

  pub read_says : mag read < 2 ^ 31 → value (back read) ≡ entry (said d) v k
  read_says fits =
      rw (to_z-of_z (record { sfits = fits }))
      (ap value (cell_in (get_or d v []) k (omega (arith, S.cells v row))) ∙ sym (said_at d v k))

  -- The same of the cell in the column of an anchor.
  pub read_by_says : (number : List ℕ) {a : ℕ} → a < 64 → k ≡ column_of number a → mag read < 2 ^ 31 → value (back read) ≡ entry (read_by number d) v a
  read_by_says number {a} inside e fits = read_says fits ∙ said_at d v k ∙ ap (λ (j : ℕ). value (cell_at d v j)) e ∙ sym (read_by_at number d v a inside)
