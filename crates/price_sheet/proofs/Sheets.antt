-- From what planning answers, and what a run is begun with, to the price of a sheet. Assumes nothing.
use mathlib.Core.Path.{◌≡◌, refl, sym, ap, ap₂, subst, ◌∙◌}
use Rattle.std.specs.Prelude.{Result, Err, Ok}
use Rattle.definitions.specs.Numbers.{Status, number, verdict_of}
use mathlib.Core.Bool.{Bool, true, false, ◌&&◌, true≢false, false≢true}
use mathlib.Core.List.{List}
use Prim.Native.Nat.{ℕ, ◌*◌, ◌≤◌, ◌<◌}
use native.Mathlib.Omega.{arith}
use lib.Dec.{leb}
use lib.ListN.{length, take, drop, length-append, length-take}
use lib.Seq.{take_at}
use borrow.Author.Tests.{le-ltb, lt-ltb}
use Rattle.definitions.specs.Answers.{Beginning, beginning, count_of, judge_records, leasts_of, open_map, plan_read, planned, serialized_of, steps_answer, steps_read, too_short, written}
use Rattle.definitions.specs.Answers as Answers
use Rattle.definitions.specs.Basics.{Outcome, given, refused, refuse_if, sum_below, tabulate, test_bit, when_given}
use Rattle.definitions.specs.Bytes.{Records, read}
use Rattle.definitions.specs.Limits.{longest_table, most_steps, register_entries}
use Rattle.definitions.specs.Links.{delay_at, is_open}
use Rattle.definitions.specs.declared.Acceptance.{Acceptance}
use Rattle.definitions.specs.declared.Acceptance.TheVariants.{Serialized, WellPosed}
use Rattle.definitions.specs.declared.Refusal.{Refusal}
use Rattle.definitions.specs.Plan.{plan_table}
use Rattle.definitions.specs.Price.{Priced, comparisons_of, largest_offset, open_at, plan_of, price_answer, price_judged, price_of, price_read, price_records, price_verdict, price_when, registers_of, too_large}
use Rattle.data_numbers.specs.Codes.{is_given}
use Rattle.demands.specs.Demands.{Bytes}
use Rattle.demands.proofs.Reading.{read_fits}
use Rattle.laws.proofs.Counts.{square_small, sum_below_same}
use Rattle.laws.proofs.Maps.{test_bits_below}
use Rattle.laws.proofs.Outcomes.{given_not_refused, passes_by, refuse_given, refused_same, when_given_by, when_given_has}
use Rattle.laws.proofs.Searches.{any_below_same}
use Rattle.laws.proofs.Tests.{tabulate_same}
use Rattle.run_sheet.specs.Steps.{StepsReturned, left_in}
use Rattle.theory.proofs.PlanTables.{plan_table_length}
use Rattle.price_sheet.specs.declared.Quotation.{Quotation}
use Rattle.price_sheet.specs.Returned.{Quotes, open_read, plan_verdict}
use Rattle.price_sheet.specs.Returned as Returned

-- A price depends on which of its n steps are open.
module _ (t u : ℕ → Bool) (n : ℕ) (same : (a : ℕ) → a < n → t a ≡ u a) (plan : List ℕ) where
  too_large_same : too_large t n plan ≡ too_large u n plan
  unfolding too_large
  too_large_same = any_below_same _ _ n (λ a b. ap (λ (x : Bool). x && leb register_entries (largest_offset n plan a)) (same a b))

  price_same : (entries : List ℕ) → price_of t entries n plan ≡ price_of u entries n plan
  unfolding price_of registers_of
  price_same entries =
      ap₂ (λ (l : List ℕ) (x : ℕ). record { registers = l; comparisons = tabulate (comparisons_of n plan) n; register_total = x; comparison_total = sum_below (comparisons_of n plan) n })
      (tabulate_same _ _ n each)
      (sum_below_same _ _ n each)
    where
      each : (a : ℕ) → a < n → registers_of t entries n plan a ≡ registers_of u entries n plan a
      each a b = rw (same a b)

-- The map of the open steps says of each step whether it is open.
open_same : (q : Records) (a : ℕ) → a < count_of q → test_bit (open_map q.steps) a ≡ open_at q a
unfolding open_map
open_same q a b = test_bits_below (λ i. is_open (delay_at q.steps i)) (count_of q) a ∙ ap (λ (x : Bool). x && open_at q a) (lt-ltb a (count_of q) b)

-- What comes after 19.
after_19 : (t : Bool) (v : ℕ) (f : ℕ → Outcome ℕ) → when_given (refuse_if t 19 (given v)) f ≡ refuse_if t 19 (f v)
unfolding when_given refuse_if
after_19 true v f = refl
after_19 false v f = refl

-- The price of an accepted sheet is that of its plan.
module _ (entries s : List ℕ) (allow : Bool) (registers comparisons : List ℕ) where
  abbrev pub plan_priced : (map n : ℕ) (plan : List ℕ) (v : ℕ) → Priced
  plan_priced map n plan v = price_when (plan_verdict (test_bit map) n plan registers comparisons v) (price_of (test_bit map) entries n plan) registers comparisons

  sheet_priced : (q : Records) (v : ℕ) → read s ≡ given q → judge_records q allow ≡ given v → plan_priced (open_map q.steps) (count_of q) (plan_of q) v ≡ price_answer entries s allow registers comparisons
  unfolding price_answer price_read price_verdict price_judged plan_verdict price_records when_given
  sheet_priced q v e j =
      rw (e, j, after_19, too_large_same (test_bit (open_map q.steps)) (open_at q) (count_of q) (open_same q) (plan_of q), price_same (test_bit (open_map q.steps)) (open_at q) (count_of q) (open_same q) (plan_of q) entries)

-- Planning that accepts: judging does, with the same verdict; and where the table has room, what planning refuses judging refuses.
plan_accepted : (table : List ℕ) (size : ℕ) {v : ℕ} (o : Outcome ℕ) → when_given o (λ w. refuse_if (too_short table size) 14 (given w)) ≡ given v → o ≡ given v
plan_accepted table size o h =
    let r = when_given_has o (λ w. refuse_if (too_short table size) 14 (given w)) h in
    r.1 ∙ ((refuse_given (too_short table size) 14 (given r.0) _).0 r.2).1

plan_judges : (table : List ℕ) (size : ℕ) {k : ℕ} → size ≤ length table → (o : Outcome ℕ) → when_given o (λ w. refuse_if (too_short table size) 14 (given w)) ≡ refused k → o ≡ refused k
unfolding when_given too_short refuse_if
plan_judges table size room (given v) h = absurd (given_not_refused ((sym (ap (λ (b : Bool). refuse_if b 14 (given v)) (le-ltb (length table) size room))) ∙ h))
plan_judges table size room (refused j) h = h

-- An acceptance accepts.
pub accepts : (a : Acceptance) → is_given (verdict_of (Ok a)) ≡ true
accepts WellPosed = refl
accepts Serialized = refl

-- A table that holds the plan of an accepted sheet at its front.
pub record Held (s : List ℕ) (allow : Bool) (o : Outcome ℕ) (table : List ℕ) : Type 0 where
  pub sheet : Records
  pub value : ℕ
  pub verdict : o ≡ given value
  pub reads : read s ≡ given sheet
  pub judges : judge_records sheet allow ≡ given value
  pub few : count_of sheet ≤ most_steps
  pub front : take (count_of sheet * count_of sheet) table ≡ plan_of sheet
  pub room : count_of sheet * count_of sheet ≤ length table

-- A front that is there is as long as it is asked to be.
pub front_length : (k : ℕ) (l : List ℕ) → k ≤ length l → k ≡ length (take k l)
front_length k l h = simp length-take (omega arith)

module _ (s : List ℕ) (bytes : Bytes s) (allow : Bool) (table : List ℕ) (long : longest_table ≤ length table) where
  room : {q : Records} → read s ≡ given q → count_of q * count_of q ≤ length table
  room {q} e = omega (arith, square_small (count_of q) (read_fits s q bytes e).few)

  -- A refusal of planning is that of pricing.
  priced_refused : (entries registers comparisons : List ℕ) {k : ℕ} → (planned s allow table).verdict ≡ refused k → price_answer entries s allow registers comparisons ≡ record { verdict = refused k; price = record { registers = registers; comparisons = comparisons; register_total = 0; comparison_total = 0 } }
  unfolding planned price_answer plan_read price_read Answers.plan_verdict price_verdict price_judged price_when when_given
  priced_refused entries registers comparisons {k} h = go (read s) refl h
    where
      go : (o : Outcome Records) → read s ≡ o → (plan_read o allow table).verdict ≡ refused k → price_read entries o allow registers comparisons ≡ record { verdict = refused k; price = record { registers = registers; comparisons = comparisons; register_total = 0; comparison_total = 0 } }
      go (refused j) e h = rw (refused_same h)
      go (given q) e h = rw (plan_judges table (count_of q * count_of q) (room e) (judge_records q allow) h)

  pub quotes_unread : (entries registers comparisons : List ℕ) (n unbounded : ℕ) (k : Refusal) → refused (number k) ≡ (planned s allow table).verdict → Quotes (price_answer entries s allow registers comparisons) n unbounded (Err k) registers comparisons
  quotes_unread entries registers comparisons n unbounded k e =
      rw (priced_refused entries registers comparisons (sym e)) (record { returned = refl; register_list = refl; comparison_list = refl })

  -- On acceptance the table holds the plan.
  pub holds : (o : Outcome ℕ) {after : List ℕ} → o ≡ (planned s allow table).verdict → is_given o ≡ true → after ≡ (planned s allow table).numbers → Held s allow o after
  unfolding planned plan_read Answers.plan_verdict written plan_of
  holds (refused k) e g a = absurd (false≢true g)
  holds (given v) {after} e g a = go (read s) refl (sym e) a
    where
      go : (o : Outcome Records) → read s ≡ o → (plan_read o allow table).verdict ≡ given v → after ≡ (plan_read o allow table).numbers → Held s allow (given v) after
      go (refused j) r h a = absurd (given_not_refused (sym h))
      go (given q) r h a = record {
        sheet = q;
        value = v;
        verdict = refl;
        reads = r;
        judges = plan_accepted table (count_of q * count_of q) (judge_records q allow) h;
        few = (read_fits s q bytes r).few;
        front = ap (take (count_of q * count_of q)) (a ∙ ap (λ (o : Outcome ℕ). written o (plan_table (count_of q) (leasts_of q) (serialized_of q)) table) h) ∙ take_at (plan_table (count_of q) (leasts_of q) (serialized_of q)) (drop (length (plan_table (count_of q) (leasts_of q) (serialized_of q))) table) (count_of q * count_of q) (plan_table_length (count_of q) (leasts_of q) (serialized_of q));
        room = omega (arith, ap length (a ∙ ap (λ (o : Outcome ℕ). written o (plan_table (count_of q) (leasts_of q) (serialized_of q)) table) h), length-append (plan_table (count_of q) (leasts_of q) (serialized_of q)) (drop (length (plan_table (count_of q) (leasts_of q) (serialized_of q))) table), plan_table_length (count_of q) (leasts_of q) (serialized_of q));
      }

-- What a run of the sheet is begun with, where there is room for the leasts of every sheet.
module _ {s : List ℕ} {allow : Bool} {o : Outcome ℕ} {table : List ℕ} (held : Held s allow o table) where
  abbrev q : Records
  q = held.sheet

  begins : (leasts : List ℕ) → most_steps ≤ length leasts → steps_answer s leasts ≡ given (beginning q leasts)
  unfolding steps_answer steps_read too_short
  begins leasts long = when_given_by (λ q. steps_read q leasts) held.reads ∙ passes_by 14 (given (beginning q leasts)) (le-ltb (length leasts) (count_of q) (omega (arith, held.few)))

  module _ {lent after : Beginning} {status : Status} (long : most_steps ≤ length lent.leasts) (returned : StepsReturned s lent status after) where
    pub count_is : after.n ≡ count_of q
    unfolding beginning
    count_is = returned.n ∙ ap (λ (b : Outcome Beginning). (left_in lent b).n) (begins lent.leasts long)

    -- N steps have a plan of N × N numbers, which is small and stands in the table.
    pub plan_small : after.n * after.n ≤ longest_table
    plan_small = square_small after.n (omega (arith, count_is, held.few))

    pub plan_room : after.n * after.n ≤ length table
    plan_room = subst (λ (k : ℕ). k * k ≤ length table) (sym count_is) held.room

    pub map_is : after.unbounded ≡ open_map q.steps
    unfolding beginning
    map_is = returned.unbounded ∙ ap (λ (b : Outcome Beginning). (left_in lent b).unbounded) (begins lent.leasts long)

  -- The price of the plan that is held is the price of the sheet.
  pub quotes_sheet : (entries registers comparisons : List ℕ) {n map : ℕ} {plan : List ℕ} {r : Result Quotation Refusal} {registers' comparisons' : List ℕ} → n ≡ count_of q → map ≡ open_map q.steps → plan ≡ take (n * n) table
      → Quotes (plan_priced entries s allow registers comparisons map n plan held.value) n map r registers' comparisons'
      → Quotes (price_answer entries s allow registers comparisons) (Returned.steps_read (read s)) (open_read (read s)) r registers' comparisons'
  quotes_sheet entries registers comparisons {n} {map} {plan} {r} {registers'} {comparisons'} en em ep h =
      let plan_is : plan ≡ plan_of q = ep ∙ ap (λ (k : ℕ). take (k * k) table) en ∙ held.front in
      let priced : plan_priced entries s allow registers comparisons map n plan held.value ≡ price_answer entries s allow registers comparisons =
      ap (λ (m : ℕ). plan_priced entries s allow registers comparisons m n plan held.value) em
      ∙ ap₂ (λ (k : ℕ) (p : List ℕ). plan_priced entries s allow registers comparisons (open_map q.steps) k p held.value) en plan_is
      ∙ sheet_priced entries s allow registers comparisons q held.value held.reads held.judges in
      rw held.reads
      (subst (λ (a : Priced). Quotes a (count_of q) (open_map q.steps) r registers' comparisons') priced
      (subst (λ (m : ℕ). Quotes (plan_priced entries s allow registers comparisons map n plan held.value) (count_of q) m r registers' comparisons') em
      (subst (λ (k : ℕ). Quotes (plan_priced entries s allow registers comparisons map n plan held.value) k map r registers' comparisons') en h)))
