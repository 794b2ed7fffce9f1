-- What is promised of prices holds of what the call returns: its contract is an equation with the definition of which the crate demands proves it.
use mathlib.Core.Path.{◌≡◌, sym, ap, subst, ◌∙◌}
use mathlib.Core.List.{List, ◌++◌}
use Prim.Native.Nat.{ℕ}
use lib.ListN.{drop, length, take}
use lib.Seq.{drop_at, take_at}
use Rattle.definitions.specs.Answers.{count_of}
use Rattle.definitions.specs.Price.{Price, price_records, printed_table}
use Rattle.demands.specs.Pricing.{PriceFor}
use Rattle.demands.proofs.Demands.{price_exactly, prices_right}
use Rattle.promises.specs.Prices.{PriceIsThat, PriceRefusalsKeep}

-- Prices with equal parts are equal.
same_price : {a b c d : List ℕ} {w x y z : ℕ} → a ≡ b → c ≡ d → w ≡ x → y ≡ z → ◌≡◌ {A = Price} (record { registers = a; comparisons = c; register_total = w; comparison_total = y }) (record { registers = b; comparisons = d; register_total = x; comparison_total = z })
same_price e f g h = rw (e, f, g, h)

-- A list that begins with n numbers: its front, and what is past it.
front_of : (new lent : List ℕ) {after : List ℕ} (n : ℕ) → length new ≡ n → after ≡ new ++ drop n lent → take n after ≡ new
front_of new lent n e h = ap (take n) h ∙ take_at new (drop n lent) n e

rest_of : (new lent : List ℕ) {after : List ℕ} (n : ℕ) → length new ≡ n → after ≡ new ++ drop n lent → drop n after ≡ drop n lent
rest_of new lent n e h = ap (drop n) h ∙ drop_at new (drop n lent) n e

pub price_is_that : PriceIsThat
price_is_that s allow q registers comparisons r registers' comparisons' sheet returned =
    let call = price_exactly.sheets printed_table s allow q registers comparisons sheet in
    record {
      priced = λ v h.
          let answer = sym returned.verdict ∙ h in
          let met = (call.priced v).0 answer in
          let numbers = call.numbers v answer in
          let counts = prices_right printed_table s allow q v met.0 in
          let first = returned.register_list ∙ ap (λ (p : Price). p.registers) numbers in
          let second = returned.comparison_list ∙ ap (λ (p : Price). p.comparisons) numbers in
          record {
            accepted = met.0;
            small = met.1;
            register_room = met.2;
            comparison_room = met.3;
            price =
                subst (PriceFor printed_table q)
                (sym
                (same_price
                (front_of (price_records printed_table q).registers registers (count_of q) counts.register_counts first)
                (front_of (price_records printed_table q).comparisons comparisons (count_of q) counts.comparison_counts second)
                (returned.register_total ∙ ap (λ (p : Price). p.register_total) numbers)
                (returned.comparison_total ∙ ap (λ (p : Price). p.comparison_total) numbers)))
                counts;
            register_rest = rest_of (price_records printed_table q).registers registers (count_of q) counts.register_counts first;
            comparison_rest = rest_of (price_records printed_table q).comparisons comparisons (count_of q) counts.comparison_counts second;
          };
      as_judged = λ k a b. let c = call.as_judged k a b in (λ h. c.0 (sym returned.verdict ∙ h), λ h. returned.verdict ∙ c.1 h);
      refused_19 = let c = call.refused_19 in (λ h. c.0 (sym returned.verdict ∙ h), λ x. returned.verdict ∙ c.1 x);
      refused_14 = let c = call.refused_14 in (λ h. c.0 (sym returned.verdict ∙ h), λ x. returned.verdict ∙ c.1 x);
    }

pub price_refusals_keep : PriceRefusalsKeep
price_refusals_keep s allow registers comparisons r registers' comparisons' k returned h =
    let kept = price_exactly.untouched printed_table s allow registers comparisons k (sym returned.verdict ∙ h) in
    record {
      register_list = returned.register_list ∙ ap (λ (p : Price). p.registers) kept;
      comparison_list = returned.comparison_list ∙ ap (λ (p : Price). p.comparisons) kept;
      register_total = returned.register_total ∙ ap (λ (p : Price). p.register_total) kept;
      comparison_total = returned.comparison_total ∙ ap (λ (p : Price). p.comparison_total) kept;
    }
