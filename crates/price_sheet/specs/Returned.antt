-- What pricing a sheet returns, and what it leaves in the lists that are lent. What is promised of prices (crate promises) is promised of what this says.
use Rattle.std.specs.Prelude.{◌≡◌, Bool, ◌||◌, List, ℕ, Result, Ok, Err}
use Rattle.definitions.specs.Answers.{count_of, open_map, too_short}
use Rattle.definitions.specs.Basics.{Outcome, given, refused, refuse_if}
use Rattle.definitions.specs.Bytes.{Records, read}
use Rattle.definitions.specs.Numbers.{number, verdict_of}
use Rattle.definitions.specs.declared.Refusal.{Refusal}
use Rattle.definitions.specs.Price.{Priced, price_answer, printed_table, too_large}
use Rattle.price_sheet.specs.declared.Quotation.{Quotation}
use Rattle.price_sheet.specs.declared.Totals.{Totals}

-- The call on the bytes s by the printed table, lent these lists, returns r and leaves the lists after it.
pub record PriceReturned (s : List ℕ) (allow : Bool) (registers comparisons : List ℕ) (r : Totals) (registers' comparisons' : List ℕ) : Type 0 where
  pub verdict : verdict_of r.verdict ≡ (price_answer printed_table s allow registers comparisons).verdict
  pub register_list : registers' ≡ (price_answer printed_table s allow registers comparisons).price.registers
  pub comparison_list : comparisons' ≡ (price_answer printed_table s allow registers comparisons).price.comparisons
  pub register_total : r.registers ≡ (price_answer printed_table s allow registers comparisons).price.register_total
  pub comparison_total : r.comparisons ≡ (price_answer printed_table s allow registers comparisons).price.comparison_total

-- A quotation is the price of what is accepted so, with N and the map of the open steps beside it.
pub record Quoted (answer : Priced) (n unbounded : ℕ) (q : Quotation) : Type 0 where
  pub verdict : verdict_of (Ok q.acceptance) ≡ answer.verdict
  pub steps : q.n ≡ n
  pub open_steps : q.unbounded ≡ unbounded
  pub register_total : q.registers ≡ answer.price.register_total
  pub comparison_total : q.comparisons ≡ answer.price.comparison_total

-- A refusal is that of the answer.
abbrev pub QuotedOr : Priced → ℕ → ℕ → Result Quotation Refusal → Type 0
QuotedOr answer n unbounded (Ok q) = Quoted answer n unbounded q
QuotedOr answer n unbounded (Err k) = refused (number k) ≡ answer.verdict

-- What is returned answers so, and so do the lists after the call.
pub record Quotes (answer : Priced) (n unbounded : ℕ) (r : Result Quotation Refusal) (registers' comparisons' : List ℕ) : Type 0 where
  pub returned : QuotedOr answer n unbounded r
  pub register_list : registers' ≡ answer.price.registers
  pub comparison_list : comparisons' ≡ answer.price.comparisons

-- N and the open map of what was read.
abbrev pub steps_read : Outcome Records → ℕ
steps_read (given q) = count_of q
steps_read (refused k) = 0

abbrev pub open_read : Outcome Records → ℕ
open_read (given q) = open_map q.steps
open_read (refused k) = 0

-- The same call by any table of entries.
abbrev pub QuoteReturned : List ℕ → List ℕ → Bool → List ℕ → List ℕ → Result Quotation Refusal → List ℕ → List ℕ → Type 0
QuoteReturned entries s allow registers comparisons r registers' comparisons' = Quotes (price_answer entries s allow registers comparisons) (steps_read (read s)) (open_read (read s)) r registers' comparisons'

-- 19 and 14 of a plan of n steps, where the sheet is accepted with the verdict v.
unfoldable pub plan_verdict : (ℕ → Bool) → ℕ → List ℕ → List ℕ → List ℕ → ℕ → Outcome ℕ
plan_verdict unbounded n plan registers comparisons v = refuse_if (too_large unbounded n plan) 19 (refuse_if (too_short registers n || too_short comparisons n) 14 (given v))
