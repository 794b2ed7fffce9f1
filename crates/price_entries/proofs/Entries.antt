-- The rule of the printed table, by one test that is computed over all entries, one after the other, and one law that turns it into the rule. Assumes nothing.
use mathlib.Core.Path.{◌≡◌, sym, subst}
use mathlib.Core.Bool.{Bool, true, ◌&&◌}
use mathlib.Core.List.{List, [], ◌∷◌}
use Prim.Native.Nat.{ℕ, zero, suc, ◌+◌, ◌<◌}
use native.Mathlib.Omega.{arith}
use native.Mathlib.Nat.{not-suc-le-zero, le_of_suc-le-suc}
use borrow.Author.Tests.{eqb-true}
use lib.Dec.{eqb}
use lib.ListN.{length, get_or}
use Rattle.definitions.specs.Limits.{register_entries}
use Rattle.definitions.specs.Price.{printed_entry, printed_table}
use Rattle.laws.proofs.Bools.{and_split}
use Rattle.laws.proofs.Fronts.{tabulate_list}

-- A test passes at each element of a list and its place, counted from i.
unfoldable pub each_from : (ℕ → ℕ → Bool) → ℕ → List ℕ → Bool
each_from test i [] = true
each_from test i (x ∷ xs) = test i x && each_from test (suc i) xs

-- It passes at element k. Induction on the list.
each_at : (test : ℕ → ℕ → Bool) (xs : List ℕ) (i k : ℕ) → each_from test i xs ≡ true → k < length xs → test (i + k) (get_or xs k 0) ≡ true
unfolding each_from
each_at test [] i k h b = absurd (not-suc-le-zero b)
each_at test (x ∷ xs) i zero h b =
    let e : i + 0 ≡ i = omega arith in
    subst (λ (m : ℕ). test m x ≡ true) (sym e) (and_split (test i x) (each_from test (suc i) xs) h).0
each_at test (x ∷ xs) i (suc k) h b =
    let e : i + suc k ≡ suc i + k = omega arith in
    subst (λ (m : ℕ). test m (get_or xs k 0) ≡ true) (sym e) (each_at test xs (suc i) k (and_split (test i x) (each_from test (suc i) xs) h).1 (le_of_suc-le-suc b))

-- An entry is what the rule says at its place.
unfoldable pub right : ℕ → ℕ → Bool
right k x = eqb x (printed_entry k)

-- A list of so many entries that are all right is the printed table.
pub all_right : (l : List ℕ) → length l ≡ register_entries → each_from right 0 l ≡ true → l ≡ printed_table
unfolding printed_table right
all_right l e h =
    sym
    (tabulate_list l printed_entry register_entries 0 e
    (λ i b. sym (eqb-true (get_or l i 0) (printed_entry i) (subst (λ (m : ℕ). right m (get_or l i 0) ≡ true) (zero_plus i) (each_at right l 0 i h (omega arith))))))
  where
    zero_plus : (i : ℕ) → 0 + i ≡ i
    zero_plus i = omega arith
