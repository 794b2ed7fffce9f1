-- Step 0 put into the first rows, one after the other, and members from n on taken out.
use mathlib.Core.Path.{◌≡◌, refl, sym, ap, ap₂, ◌∙◌}
use mathlib.Core.Bool.{true, ◌&&◌, ◌||◌}
use mathlib.Core.Logic.{◌⊎◌, inl, inr, ◌≢◌}
use mathlib.Core.List.{List}
use Prim.Native.Nat.{ℕ, ◌+◌, ◌<◌, ◌≤◌}
use native.Mathlib.Omega.{arith}
use lib.Dec.{eqb, ltb}
use lib.ListN.{length, get_or, set, length-set}
use lib.Seq.{get_or-set_same, get_or-set_other}
use borrow.Author.Tests.{lt-ltb}
use Rattle.definitions.specs.Basics.{test_bit}
use Rattle.definitions.specs.Limits.{most_steps}
use Rattle.laws.proofs.Bools.{and_join, or_right, same_or_not}
use Rattle.data_relations.specs.Rows.{row_bit}

-- The rows below v have taken in step 0 and hold steps below n alone; the others are as they were.
pub record Sourced (n : ℕ) (rows : List ℕ) (v : ℕ) (rows' : List ℕ) : Type 0 where
  pub long : length rows' ≡ most_steps
  pub made : (w a : ℕ) → w < v → row_bit rows' w a ≡ ((row_bit rows w a || eqb a 0) && ltb a n)
  pub rest : (w : ℕ) → v ≤ w → get_or rows' w 0 ≡ get_or rows w 0

pub sourced_none : {n : ℕ} {rows : List ℕ} → length rows ≡ most_steps → Sourced n rows 0 rows
sourced_none long = record { long = long; made = λ w a b. absurd (let f : ⊥ = omega arith in f); rest = λ w b. refl }

module _ (n : ℕ) (rows' : List ℕ) (v with_source all m : ℕ) (source_is : (a : ℕ) → test_bit with_source a ≡ (row_bit rows' v a || eqb a 0)) (all-is : (a : ℕ) → test_bit all a ≡ ltb a n) (m-is : (a : ℕ) → test_bit m a ≡ (test_bit with_source a && test_bit all a)) where
  -- A store leaves the other rows alone, and row v is as it was until then.
  pub sourced_more : {rows : List ℕ} → v < most_steps → Sourced n rows v rows' → Sourced n rows (v + 1) (set rows' v m)
  sourced_more {rows} b S = record { long = length-set rows' v m ∙ S.long; made = λ w a l. at w a l (same_or_not w v); rest = λ w l. get_or-set_other rows' v w m 0 (λ e. omega arith) ∙ S.rest w (omega arith) }
    where
      at : (w a : ℕ) → w < v + 1 → (w ≡ v) ⊎ (w ≢ v) → row_bit (set rows' v m) w a ≡ ((row_bit rows w a || eqb a 0) && ltb a n)
      at w a l (inl e) =
          ap (λ (i : ℕ). row_bit (set rows' v m) i a) e
          ∙ ap (λ (x : ℕ). test_bit x a) (get_or-set_same rows' v m 0 (omega (arith, S.long)))
          ∙ m-is a
          ∙ ap₂ ◌&&◌ (source_is a) (all-is a)
          ∙ ap (λ (x : ℕ). (test_bit x a || eqb a 0) && ltb a n) (S.rest v (omega arith))
          ∙ ap (λ (i : ℕ). (row_bit rows i a || eqb a 0) && ltb a n) (sym e)
      at w a l (inr d) = ap (λ (x : ℕ). test_bit x a) (get_or-set_other rows' v w m 0 d) ∙ S.made w a (omega arith)

-- Step 0 is in every row that took it in.
pub source_in : {n : ℕ} (rows rows' : List ℕ) → ((v a : ℕ) → v < n → row_bit rows' v a ≡ ((row_bit rows v a || eqb a 0) && ltb a n)) → (v : ℕ) → v < n → row_bit rows' v 0 ≡ true
source_in {n} rows rows' made v b = made v 0 b ∙ and_join (or_right (row_bit rows v 0) refl) (lt-ltb 0 n (omega arith))
