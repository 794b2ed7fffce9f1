-- What a sheet's parser finds, case by case: the laws that the functions' proofs cite. Each is the parser's text, computed at what is there.
use mathlib.Core.Path.{◌≡◌, refl}
use mathlib.Core.List.{List, [], ◌∷◌}
use Prim.Native.Nat.{ℕ, suc, ◌≤◌, ◌<◌}
use native.Mathlib.Omega.{arith}
use lib.Dec.{leb}
use lib.ListN.{length, get_or, drop}
use borrow.Author.Tests.{le-leb, lt-leb}
use Rattle.definitions.specs.Basics.{Outcome, given, refused, when_given}
use Rattle.definitions.specs.Bytes.{Taken, ◌>>=◌, ◌>>◌, give, demand, byte, two_bytes, at_end, links, operations, sheet}
use Rattle.definitions.specs.Limits.{most_steps, most_records}
use Rattle.definitions.specs.declared.Operation.{Operation}
use Rattle.definitions.specs.Bytes as Bytes
use Rattle.laws.proofs.Parsers.{when_given_twice}
use Rattle.read_fields.specs.Parts.{outcome}
use Rattle.read_records.specs.Parts.{last_links}
use Rattle.read_sheet.specs.Parts.{sheet_records, sheet_counted}

-- A value made from what a parser gives: before or after the rest of the bytes is left out.
outcome_made : {A B : Type 0} (p : Outcome (Taken A)) (f : A → B) → when_given {A = Taken B} (when_given p (λ t. given (record { value = f t.value; rest = t.rest }))) (λ t. given t.value) ≡ when_given (when_given p (λ t. given t.value)) (λ a. given (f a))
unfolding when_given
outcome_made (given t) f = refl
outcome_made (refused k) f = refl

-- The records of a sheet: the steps first, then the pairs.
module _ (n r : ℕ) (t : List ℕ) where
  pub steps_refused : {k : ℕ} → operations n t ≡ refused k → outcome (sheet_records n r) t ≡ refused k
  unfolding outcome sheet_records when_given
  steps_refused e = rw e

  module _ {os : List Operation} {rest : List ℕ} (there : operations n t ≡ given (record { value = os; rest = rest })) where
    pub with_pairs : outcome (sheet_records n r) t ≡ when_given (outcome (last_links n r) rest) (λ ls. given (record { steps = os; pairs = ls }))
    unfolding outcome sheet_records when_given
    with_pairs = rw there (outcome_made (last_links n r rest) (λ ls. record { steps = os; pairs = ls }))

-- R, and what comes after it.
module _ (n : ℕ) (t : List ℕ) where
  pub counted_refused : {k : ℕ} → two_bytes t ≡ refused k → outcome (sheet_counted n) t ≡ refused k
  unfolding outcome sheet_counted when_given
  counted_refused e = rw e

  module _ {r : ℕ} {rest : List ℕ} (there : two_bytes t ≡ given (record { value = r; rest = rest })) where
    pub counted_above : most_records < r → outcome (sheet_counted n) t ≡ refused 3
    unfolding outcome sheet_counted demand when_given
    counted_above h = rw (there, lt-leb r most_records h)

    pub counted_there : r ≤ most_records → outcome (sheet_counted n) t ≡ outcome (sheet_records n r) rest
    unfolding outcome sheet_counted demand when_given
    counted_there h = rw (there, le-leb r most_records h)

-- N, and the whole sheet.
pub sheet_none : (s : List ℕ) → length s ≡ 0 → Bytes.read s ≡ refused 1
unfolding Bytes.read sheet byte when_given
sheet_none [] e = refl
sheet_none (x ∷ s) e = absurd (let h : suc (length s) ≡ 0 = e in omega arith)

pub sheet_zero : (s : List ℕ) → 0 < length s → get_or s 0 0 < 1 → Bytes.read s ≡ refused 2
unfolding Bytes.read sheet byte demand when_given
sheet_zero [] h e = absurd (let k : 0 < 0 = h in omega arith)
sheet_zero (n ∷ s) h e = rw (lt-leb 1 n e)

pub sheet_above : (s : List ℕ) → 0 < length s → most_steps < get_or s 0 0 → Bytes.read s ≡ refused 2
unfolding Bytes.read sheet byte demand when_given
sheet_above [] h e = absurd (let k : 0 < 0 = h in omega arith)
sheet_above (n ∷ s) h e = let p : 1 ≤ n = omega arith in rw (le-leb 1 n p, lt-leb n most_steps e)

-- The definitions' own text from R on is the reader's, which reads up to the end before it makes the sheet.
counted_as_defined : (n : ℕ) (s : List ℕ) → (two_bytes >>= λ r. demand (leb r most_records) 3 >> (operations n >>= λ os. links n r >>= λ ls. at_end >> give (record { steps = os; pairs = ls }))) s ≡ sheet_counted n s
unfolding sheet_counted sheet_records last_links when_given
counted_as_defined n s = simp when_given_twice

pub sheet_there : (s : List ℕ) → 0 < length s → 1 ≤ get_or s 0 0 → get_or s 0 0 ≤ most_steps → Bytes.read s ≡ outcome (sheet_counted (get_or s 0 0)) (drop 1 s)
unfolding Bytes.read sheet byte demand when_given outcome
sheet_there [] h k l = absurd (let k : 0 < 0 = h in omega arith)
sheet_there (n ∷ s) h k l = rw (le-leb 1 n k, le-leb n most_steps l) (simp counted_as_defined)
