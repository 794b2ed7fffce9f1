-- What a report of a whole sheet holds is what a run of the sheet is begun with. Assumes nothing.
use mathlib.Core.Path.{◌≡◌, refl, sym, ap, ap₂, subst, ◌∙◌}
use Rattle.std.specs.Prelude.{Err, Ok}
use Rattle.definitions.specs.Numbers.{Status, number}
use mathlib.Core.Bool.{Bool, true, false, not, ◌&&◌, ◌||◌, and-true, and-false, or-false, or-true}
use mathlib.Core.List.{List, ◌++◌}
use Prim.Native.Nat.{ℕ, zero, suc, ◌≤◌, ◌<◌}
use native.Mathlib.Omega.{arith}
use lib.Dec.{eqb, ltb}
use lib.ListN.{length, drop}
use borrow.Author.Tests.{eqb-true, le-ltb, lt-ltb}
use Rattle.definitions.specs.Answers.{Beginning, beginning, count_of, leasts_of, open_map, steps_answer, steps_read, too_short}
use Rattle.definitions.specs.Basics.{Outcome, given, refused, bits_below, refuse_if, tabulate, test_bit, when_given}
use Rattle.definitions.specs.Bytes.{Records, read}
use Rattle.definitions.specs.Links.{delay_at, is_open}
use Rattle.definitions.specs.declared.Refusal.{Refusal}
use Rattle.definitions.specs.declared.Refusal.TheVariants.{TooShort}
use Rattle.laws.proofs.Maps.{same_map, test_bits_below}
use Rattle.laws.proofs.Outcomes.{passes_by, stops_at, when_given_by}
use Rattle.laws.proofs.Tests.{tabulate_same}
use Rattle.data_edges.specs.Serial.{leasts_in}
use Rattle.read_steps.specs.Leaving.{unbounded_at}
use Rattle.read_sheet.specs.Answers.{Holds}
use Rattle.read_sheet.specs.declared.Report.{Report}
use Rattle.read_sheet.proofs.Whole.{Whole}
use Rattle.run_sheet.specs.Steps.{Counted, Returns, StepsReturned, left_in, memory, steps_of}

-- ---- the map

-- Step 0, and of the others those below n: cut off at n first, and step 0 put in then.
pub open_bits : (others low cut r n : ℕ) → 1 ≤ n → ((j : ℕ) → test_bit low j ≡ ltb j n) → ((j : ℕ) → test_bit cut j ≡ (test_bit others j && test_bit low j)) → ((j : ℕ) → test_bit r j ≡ (test_bit cut j || eqb j 0))
    → r ≡ bits_below (λ (i : ℕ). eqb i 0 || test_bit others i) n
open_bits others low cut r n some below both with_source =
    same_map r _ (λ j. with_source j ∙ ap (λ (t : Bool). t || eqb j 0) (both j ∙ ap (λ (t : Bool). test_bit others j && t) (below j)) ∙ by j (eqb j 0) refl ∙ sym (test_bits_below (λ (i : ℕ). eqb i 0 || test_bit others i) n j))
  where
    turned : (x y : Bool) → (x && y) ≡ (y && x)
    turned true y = sym (and-true y)
    turned false y = sym (and-false y)

    by : (j : ℕ) (t : Bool) → eqb j 0 ≡ t → ((test_bit others j && ltb j n) || t) ≡ (ltb j n && (t || test_bit others j))
    by j true e = or-true (test_bit others j && ltb j n) ∙ sym (and-true (ltb j n) ∙ lt-ltb j n (omega (arith, eqb-true j 0 e)))
    by j false e = or-false (test_bit others j && ltb j n) ∙ turned (test_bit others j) (ltb j n)

-- Maps of two tests that agree below n.
bits_same : (f g : ℕ → Bool) (n : ℕ) → ((i : ℕ) → i < n → f i ≡ g i) → bits_below f n ≡ bits_below g n
unfolding bits_below
bits_same f g zero h = refl
bits_same f g (suc n) h =
    let rest = bits_same f g n (λ i b. h i (omega arith)) in
    let last = h n (omega arith) in
    rw (rest, last)

-- ---- what is returned

-- A refusal leaves what was lent.
pub refusal_returned : (k : Refusal) (outcome : Outcome Beginning) (lent : Beginning) → outcome ≡ refused (number k) → Returns outcome lent (Err k) lent
refusal_returned k outcome lent e = record { answer = sym e; n = left (λ b. b.n); unbounded = left (λ b. b.unbounded); leasts = left (λ b. b.leasts) }
  where
    left : {A : Type 0} (part : Beginning → A) → part lent ≡ part (left_in lent outcome)
    left part = ap (λ (o : Outcome Beginning). part (left_in lent o)) (sym e)

-- An answer is left in its three parts.
pub answer_returned : {outcome : Outcome Beginning} {b : Beginning} (lent : Beginning) {n unbounded : ℕ} {leasts : List ℕ} → outcome ≡ given b → n ≡ b.n → unbounded ≡ b.unbounded → leasts ≡ b.leasts
    → Returns outcome lent (Ok tt) (memory n unbounded leasts)
answer_returned {outcome} {b} lent {n} {unbounded} {leasts} e en eu el =
    record { answer = ap given same ∙ sym e; n = en ∙ left (λ b. b.n); unbounded = eu ∙ left (λ b. b.unbounded); leasts = el ∙ left (λ b. b.leasts) }
  where
    left : {A : Type 0} (part : Beginning → A) → part b ≡ part (left_in lent outcome)
    left part = ap (λ (o : Outcome Beginning). part (left_in lent o)) (sym e)

    same : memory n unbounded leasts ≡ b
    same = rw (en, eu, el)

-- 14, and the answer where enough is lent.
pub given_short : (count others : ℕ) (held : List ℕ) (lent : Beginning) → length lent.leasts < count → Returns (steps_of count others held lent.leasts) lent (Err TooShort) lent
unfolding too_short
given_short count others held lent b = refusal_returned TooShort _ lent (stops_at 14 _ (lt-ltb (length lent.leasts) count b))

pub given_whole : (count others : ℕ) (held : List ℕ) (lent : Beginning) {unbounded : ℕ} {leasts : List ℕ} → count ≤ length lent.leasts → unbounded ≡ bits_below (λ (i : ℕ). eqb i 0 || test_bit others i) count → leasts ≡ tabulate (leasts_in held) count ++ drop count lent.leasts
    → Returns (steps_of count others held lent.leasts) lent (Ok tt) (memory count unbounded leasts)
unfolding too_short
given_whole count others held lent b eu el = answer_returned lent (passes_by 14 _ (le-ltb (length lent.leasts) count b)) refl eu el

-- ---- of the bytes

-- What reading refuses is refused.
pub steps_unread : (s : List ℕ) (lent : Beginning) (k : Refusal) → read s ≡ refused (number k) → StepsReturned s lent (Err k) lent
unfolding steps_answer when_given
steps_unread s lent k e = refusal_returned k _ lent (ap (λ (o : Outcome Records). when_given o (λ q. steps_read q lent.leasts)) e)

module _ {s words held : List ℕ} {report : Report} (w : Whole s words held report) where
  abbrev q : Records
  q = w.found.whole

  abbrev holds : Holds q words held report
  holds = w.found.holds

  pub whole_counted : Counted report.n
  whole_counted = record { some = omega (arith, holds.n, w.fits.some); few = omega (arith, holds.n, w.fits.few) }

  -- Step 0 is open, and the map tells of the others.
  opens : (i : ℕ) → i < count_of q → (eqb i 0 || test_bit report.unbounded i) ≡ is_open (delay_at q.steps i)
  unfolding unbounded_at is_open
  opens i b = ap (λ (t : Bool). eqb i 0 || t) (holds.opens i (omega (arith, holds.n))) ∙ by (eqb i 0) refl
    where
      by : (t : Bool) → eqb i 0 ≡ t → (t || not t && is_open (delay_at q.steps i)) ≡ is_open (delay_at q.steps i)
      by true e = sym (ap (λ (j : ℕ). is_open (delay_at q.steps j)) (eqb-true i 0 e) ∙ ap is_open w.fits.source)
      by false e = refl

  -- So what the report holds is the answer of the definitions.
  same_steps : (lent : List ℕ) → steps_of report.n report.unbounded held lent ≡ steps_answer s lent
  unfolding steps_answer steps_read beginning open_map
  same_steps lent =
      ap (λ (n : ℕ). steps_of n report.unbounded held lent) holds.n
      ∙ ap₂ (λ (m : ℕ) (l : List ℕ). refuse_if (too_short lent (count_of q)) 14 (given (memory (count_of q) m (l ++ drop (count_of q) lent))))
      (bits_same (λ (i : ℕ). eqb i 0 || test_bit report.unbounded i) (λ i. is_open (delay_at q.steps i)) (count_of q) opens)
      (tabulate_same (leasts_in held) (leasts_of q) (count_of q) (λ i b. holds.least i))
      ∙ sym (when_given_by (λ q. steps_read q lent) w.found.is_given)

  pub steps_whole : (lent : Beginning) {r : Status} {after : Beginning} → Returns (steps_of report.n report.unbounded held lent.leasts) lent r after → StepsReturned s lent r after
  steps_whole lent {r} {after} returned = subst (λ (o : Outcome Beginning). Returns o lent r after) (same_steps lent.leasts) returned
