-- A late edge on a row: one column of it is as it was.
use mathlib.Core.Path.{◌≡◌, sym, ap, ◌∙◌}
use mathlib.Core.Bool.{false}
use mathlib.Core.Logic.{◌⊎◌, inl, inr, ◌≢◌}
use mathlib.Core.List.{List, []}
use Prim.Native.Nat.{ℕ, ◌≤◌, ◌<◌}
use native.Mathlib.Omega.{arith}
use lib.IntN.{ℤ}
use lib.ListN.{length, get_or, set}
use Rattle.definitions.specs.Basics.{test_bit}
use Rattle.laws.proofs.Bools.{same_or_not}
use Rattle.walk_cells.specs.Tables.{Square, cell_at}
use Rattle.walk_lift.specs.Lifts.{Lifted, Raised}
use Rattle.walk_cells.proofs.Tables.{square_stored, stored_beside, stored_here, stored_other}

-- A column that no lifting may touch is put back as it was. One beyond the width was not touched.
module _ (to : ℕ) (delta : ℤ) (row : List ℤ) (d d' : List (List ℤ)) (m m' width k : ℕ) (R : Raised (λ j. j < width) to delta row d d' m m') where
  pub raised_beyond : (n : ℕ) → k ≡ n → width ≤ k → Raised (λ j. (j < width) × (j ≢ n)) to delta row d d' m m'
  raised_beyond n is b =
      record { lifted = record { square = R.lifted.square; lifts = λ j l. R.lifted.lifts j l.0; keeps = λ j o. R.lifted.keeps j (λ l. o (l, λ e. omega arith)); other = R.lifted.other }; marks = R.marks; marked = R.marked }

  pub raised_back : (n : ℕ) (c : ℤ) → k ≡ n → c ≡ cell_at d to k → to < length d → k < 64 → Raised (λ j. (j < width) × (j ≢ n)) to delta row d (set d' to (set (get_or d' to []) k c)) m m'
  raised_back n c is old h b =
      rw (← is) (record { lifted = lifted; marks = R.marks; marked = λ v j q. by v j q (same_or_not v to) (same_or_not j k) })
    where
      S : Square (length d) d'
      S = R.lifted.square

      beside : (j : ℕ) → j ≢ k → cell_at (set d' to (set (get_or d' to []) k c)) to j ≡ cell_at d' to j
      beside = stored_beside d' to k c S h b

      other : (v j : ℕ) → v ≢ to → cell_at (set d' to (set (get_or d' to []) k c)) v j ≡ cell_at d' v j
      other = stored_other d' to k c S h b

      here : cell_at (set d' to (set (get_or d' to []) k c)) to k ≡ cell_at d to k
      here = stored_here d' to k c S h b ∙ old

      keeps : (j : ℕ) → ¬ ((j < width) × (j ≢ k)) → (j ≡ k) ⊎ (j ≢ k) → cell_at (set d' to (set (get_or d' to []) k c)) to j ≡ cell_at d to j
      keeps j o (inl e) = rw e here
      keeps j o (inr n) = beside j n ∙ R.lifted.keeps j (λ l. o (l, n))

      lifted : Lifted (λ j. (j < width) × (j ≢ k)) to delta row d (set d' to (set (get_or d' to []) k c))
      lifted = record {
        square = square_stored d' to k c S h b;
        lifts = λ j l. rw (beside j l.1) (R.lifted.lifts j l.0);
        keeps = λ j o. keeps j o (same_or_not j k);
        other = λ v j o. other v j o ∙ R.lifted.other v j o;
      }

      by : (v j : ℕ) → test_bit m' v ≡ false → (v ≡ to) ⊎ (v ≢ to) → (j ≡ k) ⊎ (j ≢ k) → cell_at (set d' to (set (get_or d' to []) k c)) v j ≡ cell_at d v j
      by v j q (inl e) (inl f) = rw (e, f) here
      by v j q (inl e) (inr f) = rw e (beside j f ∙ ap (λ (x : ℕ). cell_at d' x j) (sym e) ∙ R.marked v j q ∙ ap (λ (x : ℕ). cell_at d x j) e)
      by v j q (inr e) f = other v j e ∙ R.lifted.other v j e
