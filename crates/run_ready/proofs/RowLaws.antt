-- How a row is looked at from its front: what each branch of the code shows. Assumes nothing.
use mathlib.Core.Path.{◌≡◌, refl, sym, ap, ◌∙◌}
use mathlib.Core.Bool.{Bool, true, false, not, ◌&&◌, ◌||◌, and-true, or-false}
use mathlib.Core.List.{List}
use Prim.Native.Nat.{ℕ, ◌+◌, ◌*◌, ◌≤◌, ◌<◌}
use native.Mathlib.Omega.{arith}
use native.Mathlib.Numerals.{add-one}
use lib.ListN.{length, get_or, length-take, length-drop}
use borrow.Author.Tests.{eq-eqb, ne_eqb}
use Rattle.laws.proofs.Counts.{row_end, square_small}
use Rattle.definitions.specs.Basics.{any_below, all_below}
use Rattle.definitions.specs.Limits.{longest_table, most_steps}
use Rattle.definitions.specs.Plan.{undecided, row_part}
use Rattle.laws.proofs.Bools.{both_ways, not_passing}
use Rattle.laws.proofs.Tests.{all_below_each}
use Rattle.run_ready.specs.Rows.{due_in, names_in, row_ready}

-- What is known once a entries have been passed: whether one of them was named, and that all named ones are due.
pub record Passed (finished : ℕ) (finish : List ℕ) (clock : ℕ) (row : List ℕ) (named : Bool) (a : ℕ) : Type 0 where
  pub some : named ≡ any_below (names_in row) a
  pub each : all_below (λ k. not (names_in row k) || due_in finished finish clock k (get_or row k 0)) a ≡ true

module _ {finished : ℕ} {finish : List ℕ} {clock : ℕ} {row : List ℕ} where
  -- None so far.
  pub passed_none : Passed finished finish clock row false 0
  unfolding any_below all_below
  passed_none = record { some = refl; each = refl }

  -- An entry that names nothing.
  pub passed_over : {named : Bool} {a : ℕ} → Passed finished finish clock row named a → a < length row → get_or row a 0 ≡ undecided → Passed finished finish clock row named (a + 1)
  unfolding any_below all_below names_in
  passed_over {named} {a} P h e =
      record { some = rw (add-one, eq-eqb (get_or row a 0) undecided e) (P.some ∙ sym (or-false (any_below (names_in row) a))); each = rw (add-one, eq-eqb (get_or row a 0) undecided e) (rw P.each) }

  -- A named entry that is due.
  pub passed_due : {named : Bool} {a : ℕ} → Passed finished finish clock row named a → a < length row → (get_or row a 0 ≡ undecided → ⊥) → due_in finished finish clock a (get_or row a 0) ≡ true → Passed finished finish clock row true (a + 1)
  unfolding any_below all_below names_in
  passed_due {named} {a} P h e d =
      record { some = rw (add-one, ne_eqb (get_or row a 0) undecided e) (sym (or_true (any_below (names_in row) a))); each = rw (add-one, ne_eqb (get_or row a 0) undecided e) (rw (P.each, d)) }
    where
      or_true : (b : Bool) → (b || true) ≡ true
      or_true true = refl
      or_true false = refl

  -- A named entry that is not due settles the row.
  pub not_due : {named : Bool} {a : ℕ} → Passed finished finish clock row named a → a < length row → (get_or row a 0 ≡ undecided → ⊥) → due_in finished finish clock a (get_or row a 0) ≡ false → row_ready finished finish clock row (length row) ≡ false
  unfolding row_ready names_in
  not_due {a = a} P h e d = rw fails (and_false (any_below (names_in row) (length row)))
    where
      and_false : (b : Bool) → (b && false) ≡ false
      and_false true = refl
      and_false false = refl

      fails : all_below (λ k. not (names_in row k) || due_in finished finish clock k (get_or row k 0)) (length row) ≡ false
      fails = not_passing _ (λ t. both_ways (all_below_each _ (length row) t a h) (rw (ne_eqb (get_or row a 0) undecided e) d))

  -- All of them: the row's answer is whether one was named.
  pub passed_all : {named : Bool} {a : ℕ} → Passed finished finish clock row named a → a ≤ length row → length row ≤ a → named ≡ row_ready finished finish clock row (length row)
  unfolding row_ready
  passed_all {named} {a} P w h =
      let e : a ≡ length row = omega arith in
      rw (ap (λ k. all_below (λ k. not (names_in row k) || due_in finished finish clock k (get_or row k 0)) k) (sym e) ∙ P.each) (P.some ∙ ap (any_below (names_in row)) e ∙ sym (and-true (any_below (names_in row) (length row))))

-- A row lies inside the table.
pub row_inside : (n v size : ℕ) → v < n → n * n ≤ size → v * n + n ≤ size
row_inside n v size h k = omega (arith, row_end n v h)

-- A row has n entries.
pub row_length : (table : List ℕ) (n v : ℕ) → v < n → n * n ≤ length table → length (row_part table n v) ≡ n
unfolding row_part
row_length table n v h k = simp (length-take, length-drop) (omega (arith, row_inside n v (length table) h k))

-- A row ends within the longest table.
pub row_small : (n v : ℕ) → n ≤ most_steps → v < n → v * n + n ≤ longest_table
row_small n v h k = row_inside n v longest_table k (square_small n h)
