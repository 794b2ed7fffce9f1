-- What pricing answers says of the text that the price program prints.
use mathlib.Core.Path.{◌≡◌, refl, sym, ap, ap₂, subst, ◌∙◌}
use Rattle.std.specs.Prelude.{Result, Err, Ok}
use Rattle.definitions.specs.declared.Acceptance.{Acceptance}
use Rattle.definitions.specs.declared.Acceptance.TheVariants.{Serialized, WellPosed}
use mathlib.Core.Bool.{Bool, true, false, cond, ◌&&◌, ◌||◌}
use mathlib.Core.List.{List, [], ◌++◌, flat_map}
use Prim.Native.Nat.{ℕ, ◌≤◌, ◌<◌}
use native.Mathlib.Omega.{arith}
use lib.ListN.{length, get_or, take}
use lib.Seq.{get_or-take, take_at}
use borrow.Author.Tests.{le-ltb, lt-ltb}
use Rattle.definitions.specs.Answers.{count_of, open_map, too_short, written}
use Rattle.definitions.specs.Basics.{Outcome, given, refused, refuse_if, select_below, tabulate, test_bit, when_given}
use Rattle.definitions.specs.Bytes.{Records, read}
use Rattle.definitions.specs.Limits.{most_steps}
use Rattle.definitions.specs.Links.{delay_at, is_open}
use Rattle.definitions.specs.Output.{field, newline, word_refused}
use Rattle.definitions.specs.Numbers.{number, verdict_of}
use Rattle.definitions.specs.declared.Refusal.{Refusal}
use Rattle.definitions.specs.Price.{Price, comparisons_of, comparisons_text, open_at, plan_of, price_answer, price_judged, price_of, price_read, price_records, price_report, price_text, price_verdict, price_when, printed_table, registers_of, registers_text, report_read, report_when, word_comparisons, word_registers, word_total}
use Rattle.laws.proofs.Maps.{test_bits_below}
use Rattle.laws.proofs.Outcomes.{given_not_refused, passes_by, refused_same}
use Rattle.laws.proofs.Tests.{tabulate_length}
use Rattle.demands.specs.Demands.{Bytes, IsSheet}
use Rattle.demands.proofs.Reading.{fits_of, read_fits}
use Rattle.data_buffers.proofs.Listing.{texts_all, texts_same, texts_select}
use Rattle.price_sheet.specs.Returned.{QuoteReturned, open_read, steps_read}
use Rattle.price_sheet.specs.declared.Quotation.{Quotation}
use Rattle.print_line.specs.Texts.{heading, refusal_text}
use Rattle.print_price.specs.Texts.{price}

-- The text looks at no number past the first n: line by line.
module _ (f g : ℕ → Bool) (n : ℕ) (p r : Price) where
  registers_same : ((a : ℕ) → a < n → f a ≡ g a) → ((a : ℕ) → a < n → get_or p.registers a 0 ≡ get_or r.registers a 0) → flat_map (registers_text p) (select_below f n) ≡ flat_map (registers_text r) (select_below g n)
  unfolding registers_text
  registers_same tests numbers =
      sym (texts_select f (registers_text p) n)
      ∙ texts_same _ _ n (λ a b. ap₂ (λ (t : Bool) (x : ℕ). cond t (word_registers ++ field a ++ field x ++ newline) []) (tests a b) (numbers a b))
      ∙ texts_select g (registers_text r) n

  comparisons_same : ((v : ℕ) → v < n → get_or p.comparisons v 0 ≡ get_or r.comparisons v 0) → flat_map (comparisons_text p) (tabulate (λ v. v) n) ≡ flat_map (comparisons_text r) (tabulate (λ v. v) n)
  unfolding comparisons_text
  comparisons_same numbers =
      sym (texts_all (comparisons_text p) n) ∙ texts_same _ _ n (λ v b. ap (λ (x : ℕ). word_comparisons ++ field v ++ field x ++ newline) (numbers v b)) ∙ texts_all (comparisons_text r) n

  text_same : flat_map (registers_text p) (select_below f n) ≡ flat_map (registers_text r) (select_below g n) → flat_map (comparisons_text p) (tabulate (λ v. v) n) ≡ flat_map (comparisons_text r) (tabulate (λ v. v) n) → p.register_total ≡ r.register_total → p.comparison_total ≡ r.comparison_total → price_text f n p ≡ price_text g n r
  unfolding price_text
  text_same registers comparisons x y =
      ap₂ (λ (k l : List ℕ). k ++ l ++ word_total ++ field p.register_total ++ field p.comparison_total ++ newline) registers comparisons
      ∙ ap₂ (λ (k l : ℕ). flat_map (registers_text r) (select_below g n) ++ flat_map (comparisons_text r) (tabulate (λ v. v) n) ++ word_total ++ field k ++ field l ++ newline) x y

-- A number at the front of a list.
front_at : (n : ℕ) (l m : List ℕ) → take n l ≡ m → (k : ℕ) → k < n → get_or l k 0 ≡ get_or m k 0
front_at n l m e k b = sym (get_or-take n l k 0 b) ∙ ap (λ (t : List ℕ). get_or t k 0) e

-- A test that does not pass leaves an answer as it is.
untouched : {b : Bool} (k : ℕ) (o : Outcome ℕ) → b ≡ false → when_given o (λ v. refuse_if b k (given v)) ≡ o
unfolding when_given
untouched k (given v) e = passes_by k (given v) e
untouched k (refused j) e = refl

verdict_when : (o : Outcome ℕ) (p : Price) (registers comparisons : List ℕ) → (price_when o p registers comparisons).verdict ≡ o
unfolding price_when
verdict_when (given v) p registers comparisons = refl
verdict_when (refused k) p registers comparisons = refl

-- As many numbers as there are steps.
module _ (q : Records) where
  counts_length : length (price_records printed_table q).registers ≡ count_of q
  unfolding price_records price_of
  counts_length = tabulate_length (registers_of (open_at q) printed_table (count_of q) (plan_of q)) (count_of q)

  comparisons_length : length (price_records printed_table q).comparisons ≡ count_of q
  unfolding price_records price_of
  comparisons_length = tabulate_length (comparisons_of (count_of q) (plan_of q)) (count_of q)

-- The bytes are a sheet that is priced with waits allowed; its register counts and its comparisons stand at the front of the lists, and the totals are its two sums.
record Prices (s registers comparisons : List ℕ) (register_total comparison_total : ℕ) : Type 0 where
  sheet : Records
  is : IsSheet s sheet
  verdict : ℕ
  priced : price_judged sheet true ≡ given verdict
  counted : take (count_of sheet) registers ≡ (price_records printed_table sheet).registers
  compared : take (count_of sheet) comparisons ≡ (price_records printed_table sheet).comparisons
  register_sum : register_total ≡ (price_records printed_table sheet).register_total
  comparison_sum : comparison_total ≡ (price_records printed_table sheet).comparison_total

-- Pricing, lent numbers for the most steps: a price, or the refusal that is printed.
module _ (s : List ℕ) (bytes : Bytes s) (registers comparisons : List ℕ) (long : most_steps ≤ length registers) (wide : most_steps ≤ length comparisons) where
  enough : {q : Records} → read s ≡ given q → (too_short registers (count_of q) || too_short comparisons (count_of q)) ≡ false
  unfolding too_short
  enough {q} e =
      let few = (read_fits s q bytes e).few in
      ap₂ (λ (b c : Bool). b || c) (le-ltb (length registers) (count_of q) (omega arith)) (le-ltb (length comparisons) (count_of q) (omega arith))

  judges : {q : Records} → read s ≡ given q → price_verdict q true registers comparisons ≡ price_judged q true
  unfolding price_verdict
  judges {q} e = untouched 14 (price_judged q true) (enough e)

  prices_when : {q : Records} (o : Outcome ℕ) {v : ℕ} → read s ≡ given q → price_judged q true ≡ o → (price_when o (price_records printed_table q) registers comparisons).verdict ≡ given v →
      Prices s (price_when o (price_records printed_table q) registers comparisons).price.registers (price_when o (price_records printed_table q) registers comparisons).price.comparisons
      (price_when o (price_records printed_table q) registers comparisons).price.register_total (price_when o (price_records printed_table q) registers comparisons).price.comparison_total
  unfolding price_when written
  prices_when (refused k) e j h = absurd (given_not_refused (sym h))
  prices_when {q} (given v) e j h = record {
    sheet = q;
    is = record { bytes = bytes; reads = e };
    verdict = v;
    priced = j;
    counted = take_at (price_records printed_table q).registers _ (count_of q) (counts_length q);
    compared = take_at (price_records printed_table q).comparisons _ (count_of q) (comparisons_length q);
    register_sum = refl;
    comparison_sum = refl;
  }

  abbrev PricedRead : Outcome Records → Type 0
  PricedRead o =
      Prices s (price_read printed_table o true registers comparisons).price.registers (price_read printed_table o true registers comparisons).price.comparisons
      (price_read printed_table o true registers comparisons).price.register_total (price_read printed_table o true registers comparisons).price.comparison_total

  accepts : (o : Outcome Records) {v : ℕ} → read s ≡ o → (price_read printed_table o true registers comparisons).verdict ≡ given v → PricedRead o
  unfolding price_read
  accepts (refused k) e h = absurd (given_not_refused (sym h))
  accepts (given q) e h = prices_when (price_verdict q true registers comparisons) e (sym (judges e)) h

  refuses : (o : Outcome Records) {k : ℕ} → read s ≡ o → (price_read printed_table o true registers comparisons).verdict ≡ refused k → refusal_text k ≡ report_read printed_table o
  unfolding price_read report_read report_when refusal_text heading
  refuses (refused j) e h = ap (λ (i : ℕ). word_refused ++ field i ++ newline) (sym (refused_same h))
  refuses (given q) {k} e h =
      let judged : price_judged q true ≡ refused k = sym (judges e) ∙ sym (verdict_when (price_verdict q true registers comparisons) (price_records printed_table q) registers comparisons) ∙ h in
      sym (ap (report_when printed_table q) judged)

-- The text of a sheet that is priced.
module _ {s registers comparisons : List ℕ} {x y : ℕ} (prices : Prices s registers comparisons x y) where
  abbrev q : Records
  q = prices.sheet

  opens : (a : ℕ) → a < count_of q → test_bit (open_map q.steps) a ≡ open_at q a
  unfolding open_map
  opens a b = test_bits_below (λ i. is_open (delay_at q.steps i)) (length q.steps) a ∙ ap (λ (t : Bool). t && is_open (delay_at q.steps a)) (lt-ltb a (length q.steps) b)

  reported : price_report s ≡ price_text (open_at q) (count_of q) (price_records printed_table q)
  unfolding price_report report_read report_when
  reported = ap (report_read printed_table) prices.is.reads ∙ ap (report_when printed_table q) prices.priced

  prices_text : price_text (test_bit (open_map q.steps)) (count_of q) (price registers comparisons x y) ≡ price_report s
  prices_text =
      let n = count_of q in
      let p = price registers comparisons x y in
      let r = price_records printed_table q in
      text_same (test_bit (open_map q.steps)) (open_at q) n p r
      (registers_same (test_bit (open_map q.steps)) (open_at q) n p r opens (front_at n registers r.registers prices.counted))
      (comparisons_same (test_bit (open_map q.steps)) (open_at q) n p r (front_at n comparisons r.comparisons prices.compared))
      prices.register_sum
      prices.comparison_sum
      ∙ sym reported

-- An acceptance is an answer.
accepting : (a : Acceptance) → (v : ℕ) × (verdict_of (Ok a) ≡ given v)
accepting WellPosed = (0, refl)
accepting Serialized = (1, refl)

-- What a quotation by the printed table says, lent numbers for the most steps: N, the open steps and the price of a sheet, or the refusal that is printed.
module _ (s : List ℕ) (bytes : Bytes s) (registers comparisons : List ℕ) (long : most_steps ≤ length registers) (wide : most_steps ≤ length comparisons) {entries : List ℕ} (is-printed : entries ≡ printed_table) {registers' comparisons' : List ℕ} where
  quoted : {r : Result Quotation Refusal} → QuoteReturned entries s true registers comparisons r registers' comparisons' → QuoteReturned printed_table s true registers comparisons r registers' comparisons'
  quoted {r} returned = subst (λ (t : List ℕ). QuoteReturned t s true registers comparisons r registers' comparisons') is-printed returned

  pub quoted_refusal : {k : Refusal} → QuoteReturned entries s true registers comparisons (Err k) registers' comparisons' → refusal_text (number k) ≡ price_report s
  unfolding price_answer price_report
  quoted_refusal h = refuses s bytes registers comparisons long wide (read s) refl (sym (quoted h).returned)

  module _ {q : Quotation} (returned : QuoteReturned entries s true registers comparisons (Ok q) registers' comparisons') where
    prices : Prices s registers' comparisons' q.registers q.comparisons
    unfolding price_answer
    prices =
        let p = quoted returned in
        rw (p.register_list, p.comparison_list, p.returned.register_total, p.returned.comparison_total)
        (accepts s bytes registers comparisons long wide (read s) refl (sym p.returned.verdict ∙ (accepting q.acceptance).1))

    -- N and the open steps of the sheet stand beside its price.
    steps_are : q.n ≡ count_of prices.sheet
    steps_are = returned.returned.steps ∙ ap steps_read prices.is.reads

    opens_are : q.unbounded ≡ open_map prices.sheet.steps
    opens_are = returned.returned.open_steps ∙ ap open_read prices.is.reads

    pub quoted_few : q.n ≤ most_steps
    quoted_few = omega (arith, steps_are, (fits_of prices.is).few)

    pub quoted_text : price_text (test_bit q.unbounded) q.n (price registers' comparisons' q.registers q.comparisons) ≡ price_report s
    quoted_text = ap₂ (λ (m k : ℕ). price_text (test_bit m) k (price registers' comparisons' q.registers q.comparisons)) opens_are steps_are ∙ prices_text prices
