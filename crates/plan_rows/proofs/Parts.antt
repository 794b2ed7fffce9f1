-- A row asked for: the answer in each of the cases that the code tells apart, and where the row stands in the table.
use mathlib.Core.Path.{◌≡◌}
use mathlib.Core.Bool.{false, ◌&&◌}
use mathlib.Core.List.{List}
use Prim.Native.Nat.{ℕ, ◌+◌, ◌-◌, ◌*◌, ◌≤◌, ◌<◌}
use native.Mathlib.Omega.{arith}
use native.Mathlib.Nat.{add-sub_cancel_left}
use lib.Dec.{leb}
use lib.ListN.{length, take, drop}
use borrow.Author.Tests.{le-leb, lt-leb, le-ltb, lt-ltb, leb-true, leb-false, ltb-false, not-false}
use Rattle.definitions.specs.Answers.{bad_count, too_short, row_answer}
use Rattle.definitions.specs.Basics.{Outcome, given, refused, refuse_if}
use Rattle.definitions.specs.Limits.{most_steps, longest_table}
use Rattle.definitions.specs.Plan.{row_part}
use Rattle.laws.proofs.Bools.{and_split}
use Rattle.laws.proofs.Counts.{row_end, square_small}
use Rattle.laws.proofs.Outcomes.{refuse_given}
use Rattle.plan_rows.specs.Answers.{part_of}

module _ (table : List ℕ) (n v : ℕ) where
  pub row_none : n ≡ 0 → row_answer table n v ≡ refused 2
  unfolding row_answer bad_count refuse_if
  row_none h = rw h

  pub row_many : most_steps < n → row_answer table n v ≡ refused 2
  unfolding row_answer bad_count refuse_if
  row_many h = rw (le-leb 1 n (omega arith), lt-leb n most_steps h)

  counted : 1 ≤ n → n ≤ most_steps → bad_count n ≡ false
  unfolding bad_count
  counted h k = rw (le-leb 1 n h, le-leb n most_steps k)

  pub row_outside : 1 ≤ n → n ≤ most_steps → n ≤ v → row_answer table n v ≡ refused 5
  unfolding row_answer refuse_if
  row_outside h k l = rw (counted h k, le-leb n v l)

  pub row_short : 1 ≤ n → n ≤ most_steps → v < n → length table < n * n → row_answer table n v ≡ refused 14
  unfolding row_answer refuse_if too_short
  row_short h k l m = rw (counted h k, lt-leb n v l, lt-ltb (length table) (n * n) m)

  pub row_there : 1 ≤ n → n ≤ most_steps → v < n → n * n ≤ length table → row_answer table n v ≡ given (row_part table n v)
  unfolding row_answer refuse_if too_short
  row_there h k l m = rw (counted h k, lt-leb n v l, le-ltb (length table) (n * n) m)

-- The cases, and that n × n fits.
pub ruleset row_cases = (row_none, row_many, row_outside, row_short, row_there, square_small)

-- What an answer that is a part says of its arguments.
pub record Asked (table : List ℕ) (n v : ℕ) : Type 0 where
  pub few : n ≤ most_steps
  pub inside : v < n
  pub long : n * n ≤ length table
  pub part : row_answer table n v ≡ given (row_part table n v)

pub row_asked : (table : List ℕ) (n v : ℕ) {part : List ℕ} → row_answer table n v ≡ given part → Asked table n v
unfolding row_answer bad_count too_short
row_asked table n v {part} h =
    let last : Outcome (List ℕ) = given (row_part table n v) in
    let r2 = (refuse_given (bad_count n) 2 (refuse_if (leb n v) 5 (refuse_if (too_short table (n * n)) 14 last)) part).0 h in
    let r5 = (refuse_given (leb n v) 5 (refuse_if (too_short table (n * n)) 14 last) part).0 r2.1 in
    let r14 = (refuse_given (too_short table (n * n)) 14 last part).0 r5.1 in
    let count = and_split (leb 1 n) (leb n most_steps) (not-false (leb 1 n && leb n most_steps) r2.0) in
    let some = leb-true 1 n count.0 in
    let few = leb-true n most_steps count.1 in
    let inside = leb-false n v r5.0 in
    let long = ltb-false (length table) (n * n) r14.0 in
    record { few = few; inside = inside; long = long; part = row_there table n v some few inside long }

pub asked_small : {table : List ℕ} {n v : ℕ} → Asked table n v → v * n + n ≤ longest_table
asked_small {n = n} {v} a = omega (arith, row_end n v a.inside, square_small n a.few)

pub asked_part : {table : List ℕ} {n v : ℕ} → Asked table n v → take (v * n + n - v * n) (drop (v * n) table) ≡ part_of (row_answer table n v)
unfolding row_part
asked_part {table} {n} {v} a = rw (a.part, add-sub_cancel_left (v * n) n)
