-- What pricing returns to C, and what it leaves in the memory that is lent for the answer: on a refusal what was lent.
use Rattle.std.specs.Prelude.{◌≡◌, List, [], ◌∷◌, ℕ}
use Rattle.definitions.specs.Basics.{Outcome, given, refused}
use Rattle.definitions.specs.Price.{Priced}
use Rattle.data_numbers.specs.Codes.{code}

-- The totals after a verdict.
abbrev pub totals_left : Outcome ℕ → ℕ → ℕ → List ℕ → List ℕ
totals_left (given v) registers comparisons lent = registers ∷ comparisons ∷ []
totals_left (refused k) registers comparisons lent = lent

-- The lists afterwards are the definition's, which says the same of them (`Price.price_when`).
pub record PricesInto (answer : Priced) (lent : List ℕ) (r : ℕ) (left-registers left-comparisons left-totals : List ℕ) : Type 0 where
  pub verdict : r ≡ code answer.verdict
  pub register_list : left-registers ≡ answer.price.registers
  pub comparison_list : left-comparisons ≡ answer.price.comparisons
  pub totals : left-totals ≡ totals_left answer.verdict answer.price.register_total answer.price.comparison_total lent
