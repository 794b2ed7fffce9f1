-- Request L5, "Price of the control box": registers and comparisons, counted over the plan's own entries. Source document 002 has the counters: one for the start and for each open step, which counts up to
-- the largest offset that is asked of it, and a comparison for each member of a deciding set.
use Rattle.std.specs.Prelude.{Bool, true, cond, not, ◌&&◌, ◌||◌, ℕ, zero, suc, ◌+◌, ◌*◌, ◌^◌, eqb, leb, get_or}
use mathlib.Core.List.{List, [], ◌∷◌, ◌++◌, flat_map}
use Rattle.definitions.specs.Limits.{register_entries}
use Rattle.definitions.specs.Basics.{any_below, tabulate, select_below, largest, sum_below, Outcome, given, refused, refuse_if, when_given}
use Rattle.definitions.specs.Bytes.{Records, read}
use Rattle.definitions.specs.Links.{delay_at, is_open}
use Rattle.definitions.specs.Plan.{plan_table, undecided}
use Rattle.definitions.specs.Answers.{count_of, leasts_of, serialized_of, judge_records, written, too_short}
use Rattle.definitions.specs.Output.{field, newline, word_refused}

-- "The register count comes from a printed table of 1,024 entries: entry n is the smallest b whose power of two is at least n, and entry 0 is 0." The smallest from b on, in so many tries; ten are enough, for the tenth power of two is 1,024.
unfoldable pub power_from : ℕ → ℕ → ℕ → ℕ
power_from zero b n = b
power_from (suc tries) b n = cond (leb n (2 ^ b)) b (power_from tries (suc b) n)

unfoldable pub printed_entry : ℕ → ℕ
printed_entry n = power_from 10 0 n

unfoldable pub printed_table : List ℕ
printed_table = tabulate printed_entry register_entries

-- The entry of a plan of n steps at step v for step a; a stands there where it is an offset.
unfoldable pub entry_at : ℕ → List ℕ → ℕ → ℕ → ℕ
entry_at n plan a v = get_or plan (v * n + a) undecided

unfoldable pub stands_at : ℕ → List ℕ → ℕ → ℕ → Bool
stands_at n plan a v = not (eqb (entry_at n plan a v) undecided)

-- "The largest offset at which it stands in the plan, 0 if nowhere."
unfoldable pub largest_offset : ℕ → List ℕ → ℕ → ℕ
largest_offset n plan a = largest (stands_at n plan a) (entry_at n plan a) n

-- The registers of a, "for each open step and the start", which is open; 0 for a fixed step. The table's entries are given, for a buyer may have other ones (request L7).
unfoldable pub registers_of : (ℕ → Bool) → List ℕ → ℕ → List ℕ → ℕ → ℕ
registers_of unbounded entries n plan a = cond (unbounded a) (get_or entries (largest_offset n plan a) 0) 0

-- "Each member of a deciding set is one comparison."
unfoldable pub comparisons_of : ℕ → List ℕ → ℕ → ℕ
comparisons_of n plan v = sum_below (λ a. cond (stands_at n plan a v) 1 0) n

-- 19: "a largest offset of 1,024 or more".
unfoldable pub too_large : (ℕ → Bool) → ℕ → List ℕ → Bool
too_large unbounded n plan = any_below (λ a. unbounded a && leb register_entries (largest_offset n plan a)) n

-- What is priced: a number for each step, and "the two sums".
pub record Price : Type 0 where
  pub registers : List ℕ
  pub comparisons : List ℕ
  pub register_total : ℕ
  pub comparison_total : ℕ

unfoldable pub price_of : (ℕ → Bool) → List ℕ → ℕ → List ℕ → Price
price_of unbounded entries n plan = record {
  registers = tabulate (registers_of unbounded entries n plan) n;
  comparisons = tabulate (comparisons_of n plan) n;
  register_total = sum_below (registers_of unbounded entries n plan) n;
  comparison_total = sum_below (comparisons_of n plan) n;
}

-- Of a sheet: whether a step is open, its plan, and its price.
abbrev pub open_at : Records → ℕ → Bool
open_at q a = is_open (delay_at q.steps a)

unfoldable pub plan_of : Records → List ℕ
plan_of q = plan_table (count_of q) (leasts_of q) (serialized_of q)

unfoldable pub price_records : List ℕ → Records → Price
price_records entries q = price_of (open_at q) entries (count_of q) (plan_of q)

-- Priced: "19, a largest offset of 1,024 or more, after 1 to 12 and before 14". 14: a lent list has fewer than N numbers. The verdict is that of judging.
unfoldable pub price_judged : Records → Bool → Outcome ℕ
price_judged q allow = when_given (judge_records q allow) (λ v. refuse_if (too_large (open_at q) (count_of q) (plan_of q)) 19 (given v))

unfoldable pub price_verdict : Records → Bool → List ℕ → List ℕ → Outcome ℕ
price_verdict q allow registers comparisons =
    when_given (price_judged q allow) (λ v. refuse_if (too_short registers (count_of q) || too_short comparisons (count_of q)) 14 (given v))

-- What the call answers: its verdict, the lent numbers after it, and the totals; on a refusal the numbers are as lent, and the totals 0.
pub record Priced : Type 0 where
  pub verdict : Outcome ℕ
  pub price : Price

unfoldable pub price_when : Outcome ℕ → Price → List ℕ → List ℕ → Priced
price_when (given v) p registers comparisons = record {
  verdict = given v;
  price = record {
    registers = written (given v) p.registers registers;
    comparisons = written (given v) p.comparisons comparisons;
    register_total = p.register_total;
    comparison_total = p.comparison_total;
  };
}
price_when (refused k) p registers comparisons = record { verdict = refused k; price = record { registers = registers; comparisons = comparisons; register_total = 0; comparison_total = 0 } }

unfoldable pub price_read : List ℕ → Outcome Records → Bool → List ℕ → List ℕ → Priced
price_read entries (given q) allow registers comparisons = price_when (price_verdict q allow registers comparisons) (price_records entries q) registers comparisons
price_read entries (refused k) allow registers comparisons = record { verdict = refused k; price = record { registers = registers; comparisons = comparisons; register_total = 0; comparison_total = 0 } }

unfoldable pub price_answer : List ℕ → List ℕ → Bool → List ℕ → List ℕ → Priced
price_answer entries s allow registers comparisons = price_read entries (read s) allow registers comparisons

-- The report: "`registers a n` for step 0 and each open step, `comparisons v n` for each step, both rising, then one line with `total` and the two sums, registers first"; of a refusal `refused` and its number.
abbrev pub word_registers : List ℕ
word_registers = 114 ∷ 101 ∷ 103 ∷ 105 ∷ 115 ∷ 116 ∷ 101 ∷ 114 ∷ 115 ∷ []

abbrev pub word_comparisons : List ℕ
word_comparisons = 99 ∷ 111 ∷ 109 ∷ 112 ∷ 97 ∷ 114 ∷ 105 ∷ 115 ∷ 111 ∷ 110 ∷ 115 ∷ []

abbrev pub word_total : List ℕ
word_total = 116 ∷ 111 ∷ 116 ∷ 97 ∷ 108 ∷ []

unfoldable pub registers_text : Price → ℕ → List ℕ
registers_text p a = word_registers ++ field a ++ field (get_or p.registers a 0) ++ newline

unfoldable pub comparisons_text : Price → ℕ → List ℕ
comparisons_text p v = word_comparisons ++ field v ++ field (get_or p.comparisons v 0) ++ newline

unfoldable pub price_text : (ℕ → Bool) → ℕ → Price → List ℕ
price_text unbounded n p =
    flat_map (registers_text p) (select_below unbounded n) ++ flat_map (comparisons_text p) (tabulate (λ v. v) n) ++ word_total ++ field p.register_total ++ field p.comparison_total ++ newline

unfoldable pub report_when : List ℕ → Records → Outcome ℕ → List ℕ
report_when entries q (given v) = price_text (open_at q) (count_of q) (price_records entries q)
report_when entries q (refused k) = word_refused ++ field k ++ newline

unfoldable pub report_read : List ℕ → Outcome Records → List ℕ
report_read entries (given q) = report_when entries q (price_judged q true)
report_read entries (refused k) = word_refused ++ field k ++ newline

-- What the price program prints: it reads, allows waits and refuses as `standplan` does.
unfoldable pub price_report : List ℕ → List ℕ
price_report s = report_read printed_table (read s)
