-- What each branch of pricing a plan returns. Assumes nothing.
use mathlib.Core.Path.{◌≡◌, refl, sym, subst, ◌∙◌}
use Rattle.std.specs.Prelude.{Err, Ok}
use Rattle.definitions.specs.declared.Acceptance.{Acceptance}
use mathlib.Core.Bool.{Bool, true, false, ◌||◌}
use mathlib.Core.List.{List, ◌++◌}
use Prim.Native.Nat.{ℕ, ◌≤◌, ◌<◌}
use lib.ListN.{length, drop}
use borrow.Author.Tests.{le-ltb, lt-ltb}
use Rattle.definitions.specs.Answers.{too_short, written}
use Rattle.definitions.specs.Basics.{Outcome, given, refused, tabulate}
use Rattle.definitions.specs.Bytes.{Records, read}
use Rattle.definitions.specs.Numbers.{number, verdict_of}
use Rattle.definitions.specs.Price.{Price, comparisons_of, price_answer, price_of, price_read, price_records, price_verdict, price_when, printed_table, registers_of, too_large}
use Rattle.definitions.specs.declared.Refusal.{Refusal}
use Rattle.laws.proofs.Bools.{neither, or_left, or_right}
use Rattle.laws.proofs.Outcomes.{given_not_refused, passes_by, stops_at}
use Rattle.laws.proofs.Tests.{tabulate_length}
use Rattle.price_counts.specs.Plans.{Filled}
use Rattle.price_sheet.specs.declared.Quotation.{Quotation}
use Rattle.price_sheet.specs.Returned.{PriceReturned, QuoteReturned, Quotes, plan_verdict}

-- A refusal leaves the lists as they were lent.
pub quotes_refused : (o : Outcome ℕ) (p : Price) (registers comparisons : List ℕ) (n unbounded : ℕ) (k : Refusal) → o ≡ refused (number k) → Quotes (price_when o p registers comparisons) n unbounded (Err k) registers comparisons
unfolding price_when
quotes_refused o p registers comparisons n unbounded k e = rw e (record { returned = refl; register_list = refl; comparison_list = refl })

-- A list that is filled is the counts, written over the lent numbers.
filled_written : (f : ℕ → ℕ) (n v : ℕ) (lent after : List ℕ) → after ≡ tabulate f n ++ drop n lent → after ≡ written (given v) (tabulate f n) lent
unfolding written
filled_written f n v lent after e = rw (tabulate_length f n) e

module _ (unbounded : ℕ → Bool) (n : ℕ) (plan registers comparisons : List ℕ) (v : ℕ) where
  abbrev outcome : Outcome ℕ
  outcome = plan_verdict unbounded n plan registers comparisons v

  -- 19; 14 for the one list or the other; the price.
  pub large : too_large unbounded n plan ≡ true → outcome ≡ refused 19
  unfolding plan_verdict
  large h = stops_at 19 _ h

  short : too_large unbounded n plan ≡ false → (too_short registers n || too_short comparisons n) ≡ true → outcome ≡ refused 14
  unfolding plan_verdict
  short h s = passes_by 19 _ h ∙ stops_at 14 _ s

  pub short_registers : too_large unbounded n plan ≡ false → length registers < n → outcome ≡ refused 14
  unfolding too_short
  short_registers h b = short h (or_left (too_short comparisons n) (lt-ltb (length registers) n b))

  pub short_comparisons : too_large unbounded n plan ≡ false → length comparisons < n → outcome ≡ refused 14
  unfolding too_short
  short_comparisons h b = short h (or_right (too_short registers n) (lt-ltb (length comparisons) n b))

  long : too_large unbounded n plan ≡ false → n ≤ length registers → n ≤ length comparisons → outcome ≡ given v
  unfolding plan_verdict too_short
  long h a b = passes_by 19 _ h ∙ passes_by 14 _ (neither (le-ltb (length registers) n a) (le-ltb (length comparisons) n b))

  pub quotes_priced : (entries : List ℕ) {map register_total comparison_total : ℕ} {registers' comparisons' : List ℕ} (acceptance : Acceptance) → verdict_of (Ok acceptance) ≡ given v → too_large unbounded n plan ≡ false → n ≤ length registers → n ≤ length comparisons
      → Filled (registers_of unbounded entries n plan) n registers register_total registers' → Filled (comparisons_of n plan) n comparisons comparison_total comparisons'
      → Quotes (price_when outcome (price_of unbounded entries n plan) registers comparisons) n map (Ok (record { acceptance = acceptance; n = n; unbounded = map; registers = register_total; comparisons = comparison_total })) registers' comparisons'
  unfolding price_when price_of
  quotes_priced entries acceptance e h a b f g =
      rw (long h a b)
      (record {
        returned = record { verdict = e; steps = refl; open_steps = refl; register_total = f.total; comparison_total = g.total };
        register_list = filled_written (registers_of unbounded entries n plan) n v registers _ f.list;
        comparison_list = filled_written (comparisons_of n plan) n v comparisons _ g.list;
      })

-- Where a price is refused its totals are 0.
no_totals : (o : Outcome ℕ) (p : Price) (registers comparisons : List ℕ) {k : ℕ} → refused k ≡ (price_when o p registers comparisons).verdict → (0 ≡ (price_when o p registers comparisons).price.register_total) × (0 ≡ (price_when o p registers comparisons).price.comparison_total)
unfolding price_when
no_totals (given v) p registers comparisons h = absurd (given_not_refused (sym h))
no_totals (refused k) p registers comparisons h = (refl, refl)

refused_totals : (entries : List ℕ) (o : Outcome Records) (allow : Bool) (registers comparisons : List ℕ) {k : ℕ} → refused k ≡ (price_read entries o allow registers comparisons).verdict → (0 ≡ (price_read entries o allow registers comparisons).price.register_total) × (0 ≡ (price_read entries o allow registers comparisons).price.comparison_total)
unfolding price_read
refused_totals entries (given q) allow registers comparisons h = no_totals (price_verdict q allow registers comparisons) (price_records entries q) registers comparisons h
refused_totals entries (refused k) allow registers comparisons h = (refl, refl)

-- What is quoted by the printed table is the price.
module _ {entries s registers comparisons registers' comparisons' : List ℕ} {allow : Bool} (is-printed : entries ≡ printed_table) where
  pub price_quoted : {q : Quotation} → QuoteReturned entries s allow registers comparisons (Ok q) registers' comparisons' → PriceReturned s allow registers comparisons (record { verdict = Ok q.acceptance; registers = q.registers; comparisons = q.comparisons }) registers' comparisons'
  price_quoted {q} h =
      let p = subst (λ (table : List ℕ). QuoteReturned table s allow registers comparisons (Ok q) registers' comparisons') is-printed h in
      record { verdict = p.returned.verdict; register_list = p.register_list; comparison_list = p.comparison_list; register_total = p.returned.register_total; comparison_total = p.returned.comparison_total }

  pub price_refused : {k : Refusal} → QuoteReturned entries s allow registers comparisons (Err k) registers' comparisons' → PriceReturned s allow registers comparisons (record { verdict = Err k; registers = 0; comparisons = 0 }) registers' comparisons'
  unfolding price_answer
  price_refused {k} h =
      let p = subst (λ (table : List ℕ). QuoteReturned table s allow registers comparisons (Err k) registers' comparisons') is-printed h in
      let totals = refused_totals printed_table (read s) allow registers comparisons p.returned in
      record { verdict = p.returned; register_list = p.register_list; comparison_list = p.comparison_list; register_total = totals.0; comparison_total = totals.1 }
