-- A relation turned round: the loop over the members of one row, and the loop over the rows.
use mathlib.Core.Path.{◌≡◌, refl, sym, ap, ◌∙◌}
use mathlib.Core.Bool.{Bool, true, not, ◌&&◌, ◌||◌, or-false}
use mathlib.Core.List.{List}
use Prim.Native.Nat.{ℕ, ◌+◌, ◌<◌}
use lib.Dec.{eqb, ltb}
use lib.ListN.{length, get_or, set, replicate, length-replicate, length-set}
use borrow.Author.Tests.{eqb-true}
use Rattle.definitions.specs.Basics.{test_bit}
use Rattle.laws.proofs.Maps.{test_zero}
use Rattle.data_relations.specs.Rows.{row_bit, Spread}
use Rattle.data_relations.proofs.Gathering.{store_bit, zero_bit, made_none, made_more, moves}

-- The loop over the members of m: what the rows have, with what is left to put in, is what they have in the end.
pub record Spreading (m v : ℕ) (rows rows' : List ℕ) (left : ℕ) : Type 0 where
  pub long : length rows' ≡ length rows
  pub bits : (k w : ℕ) → (row_bit rows' k w || (test_bit left k && eqb w v)) ≡ (row_bit rows k w || (test_bit m k && eqb w v))

pub spreading_none : (m v : ℕ) (rows : List ℕ) → Spreading m v rows rows m
spreading_none m v rows = record { long = refl; bits = λ k w. refl }

pub spreading_more : (m v j x left left' : ℕ) (rows rows' : List ℕ) → j < length rows' → test_bit left j ≡ true → ((w : ℕ) → test_bit x w ≡ (row_bit rows' j w || eqb w v)) → ((k : ℕ) → test_bit left' k ≡ (test_bit left k && not (eqb k j))) → Spreading m v rows rows' left → Spreading m v rows (set rows' j x) left'
spreading_more m v j x left left' rows rows' b stands f g S = record { long = length-set rows' j x ∙ S.long; bits = at }
  where
    at : (k w : ℕ) → (row_bit (set rows' j x) k w || (test_bit left' k && eqb w v)) ≡ (row_bit rows k w || (test_bit m k && eqb w v))
    at k w =
        ap (λ (c : Bool). c || (test_bit left' k && eqb w v)) (store_bit rows' j x (λ (i : ℕ). eqb i v) b f k w)
        ∙ ap (λ (c : Bool). (row_bit rows' k w || (eqb k j && eqb w v)) || (c && eqb w v)) (g k)
        ∙ moves (row_bit rows' k w) (eqb w v) (test_bit left k) (eqb k j) (λ q. ap (test_bit left) (eqb-true k j q) ∙ stands)
        ∙ S.bits k w

pub spreading_all : (m v left : ℕ) (rows rows' : List ℕ) → left ≡ 0 → Spreading m v rows rows' left → Spread m v rows rows'
spreading_all m v left rows rows' e S = record { long = S.long; bits = λ k w. sym (or-false (row_bit rows' k w)) ∙ ap (λ (c : Bool). row_bit rows' k w || (c && eqb w v)) (sym (ap (λ (x : ℕ). test_bit x k) e ∙ test_zero k)) ∙ S.bits k w }

-- The loop over the rows: those below v are turned round.
pub record Turned (rows : List ℕ) (v : ℕ) (turned : List ℕ) : Type 0 where
  pub long : length turned ≡ 64
  pub bits : (w k : ℕ) → row_bit turned k w ≡ (ltb w v && row_bit rows w k)

pub turned_none : (rows : List ℕ) → Turned rows 0 (replicate 64 0)
turned_none rows = record { long = length-replicate {A = ℕ} 64 0; bits = λ w k. zero_bit 64 k w ∙ sym (test_zero w) ∙ made_none (λ (i : ℕ). row_bit rows i k) w }

pub turned_more : (rows : List ℕ) (v : ℕ) (turned turned' : List ℕ) → Turned rows v turned → Spread (get_or rows v 0) v turned turned' → Turned rows (v + 1) turned'
turned_more rows v turned turned' T S = record { long = S.long ∙ T.long; bits = λ w k. made_more (λ (i : ℕ). row_bit rows i k) (get_or turned k 0) (get_or turned' k 0) v (λ i. T.bits i k) (S.bits k) w }
