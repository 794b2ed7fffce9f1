-- The price as it is returned to C: the number of a verdict tells a refusal, which stores nothing, from an answer. Assumes nothing.
use mathlib.Core.Path.{◌≡◌, ap, ap₂, refl, subst, ◌∙◌}
use Rattle.std.specs.Prelude.{Err, Ok}
use Rattle.definitions.specs.declared.Acceptance.TheVariants as Acceptances
use Rattle.definitions.specs.Numbers.{Verdict, verdict_of}
use mathlib.Core.Bool.{Bool}
use mathlib.Core.List.{List, [], ◌∷◌}
use Prim.Native.Nat.{ℕ, ◌<◌, ◌≤◌}
use native.Mathlib.Omega.{arith}
use Rattle.definitions.specs.Basics.{Outcome}
use Rattle.definitions.specs.Price.{Priced, price_answer, printed_table}
use Rattle.data_numbers.specs.Codes.{code, refusals_past}
use Rattle.price_sheet.specs.Returned.{PriceReturned}
use Rattle.price_sheet.specs.declared.Totals.{Totals}
use Rattle.c_price.specs.Memory.{PricesInto, totals_left}

left_refused : (v : Verdict) (x y : ℕ) (lent : List ℕ) → refusals_past ≤ code (verdict_of v) → lent ≡ totals_left (verdict_of v) x y lent
left_refused (Ok Acceptances.WellPosed) x y lent b = absurd (omega arith)
left_refused (Ok Acceptances.Serialized) x y lent b = absurd (omega arith)
left_refused (Err k) x y lent b = refl

left_given : (v : Verdict) (x y : ℕ) (lent : List ℕ) → code (verdict_of v) < refusals_past → x ∷ y ∷ [] ≡ totals_left (verdict_of v) x y lent
left_given (Ok Acceptances.WellPosed) x y lent b = refl
left_given (Ok Acceptances.Serialized) x y lent b = refl
left_given (Err k) x y lent b = absurd (omega arith)

module _ {s registers comparisons registers' comparisons' : List ℕ} {allow : Bool} (lent : List ℕ) {found : Totals} {r : ℕ} (priced : PriceReturned s allow registers comparisons found registers' comparisons') (coded : r ≡ code (verdict_of found.verdict)) where
  abbrev answer : Priced
  answer = price_answer printed_table s allow registers comparisons

  -- What is left for the verdict and the totals returned is left for the definition's.
  same_left : totals_left (verdict_of found.verdict) answer.price.register_total answer.price.comparison_total lent ≡ totals_left answer.verdict answer.price.register_total answer.price.comparison_total lent
  same_left = ap (λ (o : Outcome ℕ). totals_left o answer.price.register_total answer.price.comparison_total lent) priced.verdict

  prices : {totals : List ℕ} → totals ≡ totals_left (verdict_of found.verdict) answer.price.register_total answer.price.comparison_total lent → PricesInto answer lent r registers' comparisons' totals
  prices e = record { verdict = coded ∙ ap code priced.verdict; register_list = priced.register_list; comparison_list = priced.comparison_list; totals = e ∙ same_left }

  pub prices_as_lent : refusals_past ≤ r → PricesInto answer lent r registers' comparisons' lent
  prices_as_lent b = prices (left_refused found.verdict _ _ lent (subst (λ (x : ℕ). refusals_past ≤ x) coded b))

  pub prices_stored : r < refusals_past → PricesInto answer lent r registers' comparisons' (found.registers ∷ found.comparisons ∷ [])
  prices_stored b =
      prices
      (ap₂ (λ (x y : ℕ). x ∷ y ∷ []) priced.register_total priced.comparison_total
      ∙ left_given found.verdict _ _ lent (subst (λ (x : ℕ). x < refusals_past) coded b))
