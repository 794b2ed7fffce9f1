-- Request L5, "Price of the control box", as statements about sheets as bytes. Each is proved in proofs/Demands.antt, by the theorem that its comment names. Quoted sentences are document 02's.
use Rattle.std.specs.Prelude.{◌≡◌, Bool, true, false, ◌⊎◌, ◌≢◌, ◌↔◌, List, [], ◌∷◌, ◌++◌, ℕ, ◌^◌, ◌≤◌, ◌<◌, length, get_or, drop}
use Rattle.definitions.specs.Limits.{register_entries}
use Rattle.definitions.specs.Basics.{given, refused, select_below, sum_below}
use Rattle.definitions.specs.Bytes.{Records, read}
use Rattle.definitions.specs.Answers.{count_of, judged}
use Rattle.definitions.specs.Price.{Price, open_at, price_answer, price_records, printed_table}
use Rattle.definitions.specs.Worked.{far_undecided, stand}
use Rattle.demands.specs.Demands.{Bytes, FromReading, IsSheet, Accepted, in_start_set, sheet_decides, sheet_offset}

-- ## The printed table

-- b is the smallest number whose power of two is at least n.
pub record SmallestPower (n b : ℕ) : Type 0 where
  pub enough : n ≤ 2 ^ b
  pub smallest : (c : ℕ) → c < b → 2 ^ c < n

-- "A printed table of 1,024 entries: entry n is the smallest b whose power of two is at least n, and entry 0 is 0." Proof: printed_rule.
pub record PrintedRule : Type 0 where
  pub size : length printed_table ≡ register_entries
  pub rule : (n : ℕ) → n < register_entries → SmallestPower n (get_or printed_table n 0)
  pub at_0 : get_or printed_table 0 0 ≡ 0

-- ## The counts

-- "The largest offset at which it stands in the plan, 0 if nowhere." a stands in the plan at the steps that it decides, and not in the whole of their start sets: x is such an offset and none is larger, or a decides no step and x is 0.
pub record LargestOffset (q : Records) (a x : ℕ) : Type 0 where
  pub bound : (v : ℕ) → v < count_of q → sheet_decides q a v ≡ true → sheet_offset q a v ≤ x
  pub attained : ((v : ℕ) × (v < count_of q) × (sheet_decides q a v ≡ true) × (sheet_offset q a v ≡ x)) ⊎ (((v : ℕ) → v < count_of q → sheet_decides q a v ≡ false) × (x ≡ 0))

-- "For each open step and the start", which is open, "take the largest offset at which it stands in the plan." "The register count comes from a printed table": the entry there, of any table. A fixed step has none. "Each member of a deciding set is
-- one comparison." "The totals equal the sums of these counts, taken from the plan's own entries." Proof: prices_right.
pub record PriceFor (entries : List ℕ) (q : Records) (p : Price) : Type 0 where
  pub start_open : open_at q 0 ≡ true
  pub register_counts : length p.registers ≡ count_of q
  pub comparison_counts : length p.comparisons ≡ count_of q
  pub open_step : (a : ℕ) → a < count_of q → open_at q a ≡ true → (x : ℕ) × LargestOffset q a x × (get_or p.registers a 0 ≡ get_or entries x 0)
  pub fixed_step : (a : ℕ) → a < count_of q → open_at q a ≡ false → get_or p.registers a 0 ≡ 0
  pub members : (v : ℕ) → v < count_of q → get_or p.comparisons v 0 ≡ length (select_below (λ a. sheet_decides q a v) (count_of q))
  pub register_sum : p.register_total ≡ sum_below (λ a. get_or p.registers a 0) (count_of q)
  pub comparison_sum : p.comparison_total ≡ sum_below (λ v. get_or p.comparisons v 0) (count_of q)

abbrev pub PricesRight : Type 0
PricesRight = (entries s : List ℕ) (allow : Bool) (q : Records) (v : ℕ) → Accepted s allow q v → PriceFor entries q (price_records entries q)

-- ## The call

-- "A largest offset of 1,024 or more", of step 0 or an open step.
pub record SomeLarge (q : Records) : Type 0 where
  pub step : ℕ
  pub within : step < count_of q
  pub is_open : open_at q step ≡ true
  pub offset : ℕ
  pub largest : LargestOffset q step offset
  pub large : register_entries ≤ offset

-- The call on a sheet, which "reads, allows waits and refuses as `standplan` does." "Turned away: 19, a largest offset of 1,024 or more, after 1 to 12 and before 14." 14: a list has fewer than N numbers. Else the counts stand in front of
-- what is past them in the lent lists, with the totals.
pub record PriceCall (entries s : List ℕ) (allow : Bool) (q : Records) (registers comparisons : List ℕ) : Type 0 where
  pub as_judged : (k : ℕ) → k ≢ 19 → k ≢ 14 → ((price_answer entries s allow registers comparisons).verdict ≡ refused k) ↔ (judged s allow ≡ refused k)
  pub refused_19 : ((price_answer entries s allow registers comparisons).verdict ≡ refused 19) ↔ ((v : ℕ) × Accepted s allow q v × SomeLarge q)
  pub refused_14 : ((price_answer entries s allow registers comparisons).verdict ≡ refused 14) ↔ ((v : ℕ) × Accepted s allow q v × (¬ SomeLarge q) × ((length registers < count_of q) ⊎ (length comparisons < count_of q)))
  pub priced : (v : ℕ) → ((price_answer entries s allow registers comparisons).verdict ≡ given v) ↔ (Accepted s allow q v × (¬ SomeLarge q) × (count_of q ≤ length registers) × (count_of q ≤ length comparisons))
  pub numbers : (v : ℕ) → (price_answer entries s allow registers comparisons).verdict ≡ given v → (price_answer entries s allow registers comparisons).price ≡ record {
    registers = (price_records entries q).registers ++ drop (count_of q) registers;
    comparisons = (price_records entries q).comparisons ++ drop (count_of q) comparisons;
    register_total = (price_records entries q).register_total;
    comparison_total = (price_records entries q).comparison_total;
  }

-- Each refusal exactly: 19, 14 and those of judging, in this order from the last; and a refusal leaves the lists as they were lent, with totals of 0. Proof: price_exactly.
pub record PriceExactly : Type 0 where
  pub unread : (entries s : List ℕ) (allow : Bool) (registers comparisons : List ℕ) (k : ℕ) → Bytes s → (read s ≡ refused k) ↔ (((price_answer entries s allow registers comparisons).verdict ≡ refused k) × FromReading k)
  pub sheets : (entries s : List ℕ) (allow : Bool) (q : Records) (registers comparisons : List ℕ) → IsSheet s q → PriceCall entries s allow q registers comparisons
  pub no_others : (entries s : List ℕ) (allow : Bool) (registers comparisons : List ℕ) (k : ℕ) → (price_answer entries s allow registers comparisons).verdict ≡ refused k → (judged s allow ≡ refused k) ⊎ ((k ≡ 19) ⊎ (k ≡ 14))
  pub untouched : (entries s : List ℕ) (allow : Bool) (registers comparisons : List ℕ) (k : ℕ) → (price_answer entries s allow registers comparisons).verdict ≡ refused k
      → (price_answer entries s allow registers comparisons).price ≡ record { registers = registers; comparisons = comparisons; register_total = 0; comparison_total = 0 }

-- ## The hypotheses are met

-- The stand sheet is accepted and has a price: step 0 needs two registers for the offset 3, the hand one for the offset 2. Proof: price_met.
abbrev pub PriceMet : Type 0
PriceMet = (q : Records) × Accepted (stand 2) true q 0 × PriceFor printed_table q (price_records printed_table q) × ((price_records printed_table q).registers ≡ 2 ∷ 0 ∷ 1 ∷ 0 ∷ 0 ∷ [])

-- Start sets do not count: step 0 is in the start set of step 2 of this sheet, with the offset 1,024, and does not decide it. The sheet is priced, and step 0 has no register. Proof: start_sets_uncounted.
pub record Uncounted (q : Records) : Type 0 where
  pub accepted : Accepted far_undecided true q 0
  pub member : in_start_set q 0 2 ≡ true
  pub far : sheet_offset q 0 2 ≡ register_entries
  pub small : ¬ SomeLarge q
  pub registers : get_or (price_records printed_table q).registers 0 0 ≡ 0

abbrev pub StartSetsUncounted : Type 0
StartSetsUncounted = (q : Records) × Uncounted q
