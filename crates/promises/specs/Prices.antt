-- Request L5, "Price of the control box", stated of what `price` of the crate price_sheet returns. Definitions alone: the theorem of the same name in small letters, in proofs/Prices.antt, proves it.
-- What the function returned is said by what its contract cites, `PriceReturned`: r is its answer, registers' and comparisons' the lists that were lent, after it. Quoted sentences are document 02's.
use Rattle.std.specs.Prelude.{◌≡◌, Bool, ◌⊎◌, ◌≢◌, ◌↔◌, List, ℕ, ◌≤◌, ◌<◌, drop, length, take}
use Rattle.definitions.specs.Answers.{count_of, judged}
use Rattle.definitions.specs.Basics.{given, refused}
use Rattle.definitions.specs.Bytes.{Records}
use Rattle.definitions.specs.Numbers.{verdict_of}
use Rattle.definitions.specs.Price.{printed_table}
use Rattle.demands.specs.Demands.{Accepted, IsSheet}
use Rattle.demands.specs.Pricing.{PriceFor, SomeLarge}
use Rattle.price_sheet.specs.Returned.{PriceReturned}
use Rattle.price_sheet.specs.declared.Totals.{Totals}

-- "The totals equal the sums of these counts, taken from the plan's own entries": the first N numbers of each list and the totals that were returned are a price of the sheet by the printed table. Numbers past them are as lent.
pub record PriceHeld (s : List ℕ) (allow : Bool) (q : Records) (registers comparisons : List ℕ) (r : Totals) (registers' comparisons' : List ℕ) (v : ℕ) : Type 0 where
  pub accepted : Accepted s allow q v
  pub small : ¬ SomeLarge q
  pub register_room : count_of q ≤ length registers
  pub comparison_room : count_of q ≤ length comparisons
  pub price : PriceFor printed_table q (record { registers = take (count_of q) registers'; comparisons = take (count_of q) comparisons'; register_total = r.registers; comparison_total = r.comparisons })
  pub register_rest : drop (count_of q) registers' ≡ drop (count_of q) registers
  pub comparison_rest : drop (count_of q) comparisons' ≡ drop (count_of q) comparisons

-- "Turned away: 19, a largest offset of 1,024 or more, after 1 to 12 and before 14"; all other refusals are those of judging.
pub record PriceCallHeld (s : List ℕ) (allow : Bool) (q : Records) (registers comparisons : List ℕ) (r : Totals) (registers' comparisons' : List ℕ) : Type 0 where
  pub priced : (v : ℕ) → verdict_of r.verdict ≡ given v → PriceHeld s allow q registers comparisons r registers' comparisons' v
  pub as_judged : (k : ℕ) → k ≢ 19 → k ≢ 14 → (verdict_of r.verdict ≡ refused k) ↔ (judged s allow ≡ refused k)
  pub refused_19 : (verdict_of r.verdict ≡ refused 19) ↔ ((v : ℕ) × Accepted s allow q v × SomeLarge q)
  pub refused_14 : (verdict_of r.verdict ≡ refused 14) ↔ ((v : ℕ) × Accepted s allow q v × (¬ SomeLarge q) × ((length registers < count_of q) ⊎ (length comparisons < count_of q)))

abbrev pub PriceIsThat : Type 0
PriceIsThat =
    (s : List ℕ) (allow : Bool) (q : Records) (registers comparisons : List ℕ) (r : Totals) (registers' comparisons' : List ℕ)
    → IsSheet s q → PriceReturned s allow registers comparisons r registers' comparisons' → PriceCallHeld s allow q registers comparisons r registers' comparisons'

-- "Nothing lent changes on a refusal", whatever the bytes, and the totals are 0.
pub record PriceKept (registers comparisons : List ℕ) (r : Totals) (registers' comparisons' : List ℕ) : Type 0 where
  pub register_list : registers' ≡ registers
  pub comparison_list : comparisons' ≡ comparisons
  pub register_total : r.registers ≡ 0
  pub comparison_total : r.comparisons ≡ 0

abbrev pub PriceRefusalsKeep : Type 0
PriceRefusalsKeep =
    (s : List ℕ) (allow : Bool) (registers comparisons : List ℕ) (r : Totals) (registers' comparisons' : List ℕ) (k : ℕ)
    → PriceReturned s allow registers comparisons r registers' comparisons' → verdict_of r.verdict ≡ refused k → PriceKept registers comparisons r registers' comparisons'
