-- What the answers of planning and of listing waits say of the text that `standplan` prints.
use mathlib.Core.Path.{◌≡◌, refl, sym, ap, subst, ◌∙◌}
use mathlib.Core.Bool.{Bool, true, false, ◌&&◌}
use mathlib.Core.List.{List, [], ◌∷◌}
use Prim.Native.Nat.{ℕ, zero, suc, ◌*◌, ◌≤◌}
use native.Mathlib.Omega.{arith}
use lib.Dec.{leb}
use lib.ListN.{length, get_or, take, drop, length-append}
use borrow.Author.Tests.{le-ltb}
use Rattle.definitions.specs.Answers.{Waits, count_of, leasts_of, edges_of, judge_records, judged, plan_read, plan_verdict, planned, serialized_of, too_short, waits_answer, waits_read, waits_when, written}
use Rattle.definitions.specs.Basics.{Outcome, given, refused, refuse_if, when_given}
use Rattle.definitions.specs.Bytes.{Parser, Records, Taken, at_end, byte, demand, operation, operations, read, records, sheet, two_bytes, links as links_of}
use Rattle.definitions.specs.Limits.{most_records, most_steps}
use Rattle.definitions.specs.Links.{Edge}
use Rattle.definitions.specs.Output.{standplan}
use Rattle.definitions.specs.Plan.{plan_table}
use Rattle.definitions.specs.Waits.{wait_maps, wait_count}
use Rattle.demands.specs.Demands.{Bytes}
use Rattle.demands.proofs.Reading.{read_fits}
use Rattle.demands.proofs.Planning.{offset_for}
use Rattle.laws.proofs.Counts.{square_small}
use Rattle.laws.proofs.Outcomes.{given_not_refused, given_same, refused_same, refuse_given, when_given_has, when_given_by}
use Rattle.print_line.specs.Texts.{refusal_text}
use Rattle.print_plan.specs.Texts.{plan_text}
use Rattle.print_plan.proofs.Listings.{standplan_plan, standplan_refusal, wait_maps_bits, written_plan}
use Rattle.theory.proofs.PlanTables.{plan_table_length}
use Rattle.print_sheet.specs.Plans.{Plans}

-- As many records are read as are asked for. Induction on their number.
records_length : {A S : Type 0} (item : S → Parser A) (next : A → S) (k : ℕ) (state : S) (s : List ℕ) {t : Taken (List A)} → records item next k state s ≡ given t → length t.value ≡ k
unfolding records
records_length item next zero state s e = let z = given_same e in rw (← z) refl
records_length item next (suc k) state s e =
    let r = when_given_has (item state s) _ e in
    let m = when_given_has (records item next k (next r.0.value) r.0.rest) _ r.2 in
    let z = given_same m.2 in
    rw (← z) (ap suc (records_length item next k (next r.0.value) r.0.rest m.1))

first_taken : (s : List ℕ) {t : Taken ℕ} → byte s ≡ given t → t.value ≡ get_or s 0 0
unfolding byte
first_taken [] e = absurd (given_not_refused (sym e))
first_taken (x ∷ s) e = let z = given_same e in rw (← z) refl

-- The first byte of a sheet is the number of its steps: that many records are read after it.
pub count_first : (s : List ℕ) {q : Records} → read s ≡ given q → count_of q ≡ get_or s 0 0
unfolding read sheet operations
count_first s {q} e =
    let whole = when_given_has (sheet s) _ e in
    let first = when_given_has (byte s) _ whole.1 in
    let allowed = when_given_has (demand (leb 1 first.0.value && leb first.0.value most_steps) 2 first.0.rest) _ first.2 in
    let links = when_given_has (two_bytes allowed.0.rest) _ allowed.2 in
    let fewer = when_given_has (demand (leb links.0.value most_records) 3 links.0.rest) _ links.2 in
    let steps = when_given_has (operations first.0.value fewer.0.rest) _ fewer.2 in
    let pairs = when_given_has (links_of first.0.value links.0.value steps.0.rest) _ steps.2 in
    let end = when_given_has (at_end pairs.0.rest) _ pairs.2 in
    let same : record { steps = steps.0.value; pairs = pairs.0.value } ≡ q = ap (λ (t : Taken Records). t.value) (given_same end.2) ∙ given_same whole.2 in
    ap (λ (r : Records). length r.steps) (sym same) ∙ records_length operation (λ o. false) first.0.value true fewer.0.rest steps.1 ∙ first_taken s first.1

-- Planning that accepts: the sheet is accepted.
plan_accepted : (table : List ℕ) (size : ℕ) {v : ℕ} (o : Outcome ℕ) → when_given o (λ w. refuse_if (too_short table size) 14 (given w)) ≡ given v → o ≡ given v
plan_accepted table size o h =
    let r = when_given_has o (λ w. refuse_if (too_short table size) 14 (given w)) h in
    r.1 ∙ ((refuse_given (too_short table size) 14 (given r.0) _).0 r.2).1

-- Where the table has room for every plan, planning refuses what judging does.
plan_judges : (table : List ℕ) (size : ℕ) {k : ℕ} → size ≤ length table → (o : Outcome ℕ) → when_given o (λ w. refuse_if (too_short table size) 14 (given w)) ≡ refused k → o ≡ refused k
unfolding when_given too_short refuse_if
plan_judges table size room (given v) h = absurd (given_not_refused ((sym (ap (λ (b : Bool). refuse_if b 14 (given v)) (le-ltb (length table) size room))) ∙ h))
plan_judges table size room (refused j) h = h

-- The plan is written at the front.
plan_front : (n : ℕ) (least : ℕ → ℕ) (es : List Edge) (table : List ℕ) {v : ℕ} {o : Outcome ℕ} → o ≡ given v → take (n * n) (written o (plan_table n least es) table) ≡ plan_table n least es
unfolding written
plan_front n least es table e = rw e (written_plan n least es _)

-- Lent numbers keep their count where the answer fits.
written_room : (n : ℕ) (least : ℕ → ℕ) (es : List Edge) (table : List ℕ) (o : Outcome ℕ) → n * n ≤ length table → n * n ≤ length (written o (plan_table n least es) table)
unfolding written
written_room n least es table (given v) room = omega (arith, length-append (plan_table n least es) (drop (length (plan_table n least es)) table), plan_table_length n least es)
written_room n least es table (refused k) room = room

module _ (s : List ℕ) (bytes : Bytes s) (table : List ℕ) (long : most_steps * most_steps ≤ length table) where
  fits_room : {q : Records} → read s ≡ given q → count_of q * count_of q ≤ length table
  fits_room {q} e = omega (arith, square_small (count_of q) (read_fits s q bytes e).few)

  accepts : {v count : ℕ} {waits : List ℕ} (o : Outcome Records) → read s ≡ o → waits ≡ (waits_answer s).maps → count ≡ (waits_answer s).count → (plan_read o true table).verdict ≡ given v → Plans s v count waits (plan_read o true table).numbers
  unfolding plan_read plan_verdict judged
  accepts (refused k) e m c h = absurd (given_not_refused (sym h))
  accepts (given q) e m c h = record {
    sheet = q;
    accepted = record { sheet = record { bytes = bytes; reads = e }; accepts = when_given_by (λ q. judge_records q true) e ∙ plan_accepted table (count_of q * count_of q) (judge_records q true) h };
    maps = m;
    counted = c;
    front = plan_front (count_of q) (leasts_of q) (serialized_of q) table h;
    room = written_room (count_of q) (leasts_of q) (serialized_of q) table _ (fits_room e);
  }

  refuses : {k : ℕ} (o : Outcome Records) → read s ≡ o → (plan_read o true table).verdict ≡ refused k → judged s true ≡ refused k
  unfolding plan_read plan_verdict judged when_given
  refuses (refused j) e h = rw e (ap refused (refused_same h))
  refuses (given q) e h = rw e (plan_judges table (count_of q * count_of q) (fits_room e) (judge_records q true) h)

  -- What planning answers, of a table with room for every plan: the plan, or a refusal, which is the text printed.
  pub plan_plans : {v count : ℕ} {after waits : List ℕ} → given v ≡ (planned s true table).verdict → after ≡ (planned s true table).numbers → waits ≡ (waits_answer s).maps → count ≡ (waits_answer s).count → Plans s v count waits after
  unfolding planned
  plan_plans h e m c = rw e (accepts (read s) refl m c (sym h))

  pub plan_refuses : {k : ℕ} → refused k ≡ (planned s true table).verdict → refusal_text k ≡ standplan s
  unfolding planned
  plan_refuses {k} h = standplan_refusal s k (refuses (read s) refl (sym h))

-- The waits of an accepted sheet are those of its edges.
module _ {s : List ℕ} {v count : ℕ} {waits table : List ℕ} (plans : Plans s v count waits table) where
  abbrev q : Records
  q = plans.sheet

  reads : read s ≡ given q
  reads = plans.accepted.sheet.reads

  judges : judge_records q true ≡ given v
  unfolding judged
  judges = sym (when_given_by (λ q. judge_records q true) reads) ∙ plans.accepted.accepts

  pub steps_first : count_of q ≡ get_or s 0 0
  steps_first = count_first s reads

  pub steps_few : get_or s 0 0 ≤ most_steps
  steps_few = omega (arith, steps_first, (read_fits s q plans.accepted.sheet.bytes reads).few)

  pub steps_room : get_or s 0 0 * get_or s 0 0 ≤ length table
  steps_room = subst (λ (n : ℕ). n * n ≤ length table) steps_first plans.room

  waits_are : waits_answer s ≡ record { verdict = given v; maps = wait_maps (count_of q) (edges_of q); count = wait_count (count_of q) (edges_of q) }
  unfolding waits_answer waits_read waits_when
  waits_are = rw (reads, judges)

  -- The text, from the waits as they are listed and the plan.
  pub plans_text : plan_text v count waits table (get_or s 0 0) ≡ standplan s
  plans_text =
      let maps_are : waits ≡ wait_maps (count_of q) (edges_of q) = plans.maps ∙ ap (λ (a : Waits). a.maps) waits_are in
      let count_is : count ≡ wait_count (count_of q) (edges_of q) = plans.counted ∙ ap (λ (a : Waits). a.count) waits_are in
      ap (plan_text v count waits table) (sym steps_first)
      ∙ ap (λ (c : ℕ). plan_text v c waits table (count_of q)) count_is
      ∙ ap (λ (m : List ℕ). plan_text v (wait_count (count_of q) (edges_of q)) m table (count_of q)) maps_are
      ∙ standplan_plan s q v (wait_maps (count_of q) (edges_of q)) table reads judges
      (wait_maps_bits (count_of q) (edges_of q) (omega (arith, steps_first, steps_few)))
      plans.front
      (λ a i b m. (offset_for plans.accepted a i b m).small)
