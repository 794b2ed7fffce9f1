-- The plan as a table: its length, its entries, its rows.
use mathlib.Core.Path.{◌∙◌, ◌≡◌, ap, sym}
use mathlib.Core.Logic.{◌⊎◌, inl, inr}
use mathlib.Core.List.{List, [], ◌++◌, append_assoc, append-nil}
use Prim.Native.Nat.{◌*◌, ◌+◌, ◌<◌, suc, zero, ℕ}
use native.Mathlib.Omega.{arith}
use native.Mathlib.Nat.{suc-mul}
use lib.ListN.{drop, get_or, length, length-append, take}
use lib.Seq.{drop_at, get_or-drop, get_or-take, take_at}
use Rattle.definitions.specs.Links.{Edge}
use Rattle.definitions.specs.Plan.{plan_entry, plan_row, plan_rows, plan_table, row_part}
use Rattle.laws.proofs.Tests.{last_or_below, tabulate_at, tabulate_length}

pub plan_row_length : (n : ℕ) (least : ℕ → ℕ) (es : List Edge) (v : ℕ) → length (plan_row n least es v) ≡ n
unfolding plan_row
plan_row_length n least es v = tabulate_length (plan_entry n least es v) n

pub plan_row_at : (n : ℕ) (least : ℕ → ℕ) (es : List Edge) (v a z : ℕ) → a < n → get_or (plan_row n least es v) a z ≡ plan_entry n least es v a
unfolding plan_row
plan_row_at n least es v a z b = tabulate_at (plan_entry n least es v) n a z b

pub plan_rows_length : (n : ℕ) (least : ℕ → ℕ) (es : List Edge) (k : ℕ) → length (plan_rows n least es k) ≡ k * n
unfolding plan_rows
plan_rows_length n least es zero = omega arith
plan_rows_length n least es (suc k) =
    omega (arith, length-append (plan_rows n least es k) (plan_row n least es k), plan_rows_length n least es k, plan_row_length n least es k, suc-mul k n)

pub plan_table_length : (n : ℕ) (least : ℕ → ℕ) (es : List Edge) → length (plan_table n least es) ≡ n * n
unfolding plan_table
plan_table_length n least es = plan_rows_length n least es n

-- Row v begins where the rows before it end. Induction on the number of rows.
plan_rows_row : (n : ℕ) (least : ℕ → ℕ) (es : List Edge) (k v : ℕ) → v < k → (rest : List ℕ) → take n (drop (v * n) (plan_rows n least es k ++ rest)) ≡ plan_row n least es v
unfolding plan_rows
plan_rows_row n least es zero v b rest = absurd (omega arith)
plan_rows_row n least es (suc k) v b rest = go (last_or_below k v b) (plan_rows_row n least es k v)
  where
    flat : plan_rows n least es k ++ plan_row n least es k ++ rest ≡ plan_rows n least es k ++ (plan_row n least es k ++ rest)
    flat = append_assoc (plan_rows n least es k) (plan_row n least es k) rest

    go : (v ≡ k) ⊎ (v < k) → (v < k → (rest : List ℕ) → take n (drop (v * n) (plan_rows n least es k ++ rest)) ≡ plan_row n least es v) → take n (drop (v * n) (plan_rows n least es k ++ plan_row n least es k ++ rest)) ≡ plan_row n least es v
    go (inr c) below = ap (λ (l : List ℕ). take n (drop (v * n) l)) flat ∙ below c (plan_row n least es k ++ rest)
    go (inl e) below =
        ap (λ (l : List ℕ). take n (drop (v * n) l)) flat
        ∙ ap (take n) (drop_at (plan_rows n least es k) (plan_row n least es k ++ rest) (v * n) (plan_rows_length n least es k ∙ ap (λ (x : ℕ). x * n) (sym e)))
        ∙ take_at (plan_row n least es k) rest n (plan_row_length n least es k)
        ∙ ap (plan_row n least es) (sym e)

-- Row v of the plan's table, also where it lies in a longer table.
pub plan_table_row : (n : ℕ) (least : ℕ → ℕ) (es : List Edge) (v : ℕ) → v < n → (rest : List ℕ) → row_part (plan_table n least es ++ rest) n v ≡ plan_row n least es v
unfolding row_part plan_table
plan_table_row n least es v b rest = plan_rows_row n least es n v b rest

pub plan_table_at : (n : ℕ) (least : ℕ → ℕ) (es : List Edge) (v a z : ℕ) → v < n → a < n → get_or (plan_table n least es) (v * n + a) z ≡ plan_entry n least es v a
unfolding row_part
plan_table_at n least es v a z b c =
    sym (get_or-drop (v * n) (plan_table n least es) a z)
    ∙ sym (get_or-take n (drop (v * n) (plan_table n least es)) a z c)
    ∙ ap (λ (l : List ℕ). get_or l a z) (ap (λ (l : List ℕ). take n (drop (v * n) l)) (sym (append-nil (plan_table n least es))) ∙ plan_table_row n least es v b [])
    ∙ plan_row_at n least es v a z c
