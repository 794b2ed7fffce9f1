-- The answer about a sheet, from how 8, 10 and 11 judge it; and what a report of reading holds.
use mathlib.Core.Path.{◌≡◌, refl, sym, ap, ◌∙◌}
use Rattle.std.specs.Prelude.{Err, Ok}
use Rattle.definitions.specs.Numbers.{Status, Tally, number, status_of, tally_of}
use mathlib.Core.Bool.{Bool, true, false, cond, not, ◌||◌}
use mathlib.Core.List.{List}
use Prim.Native.Nat.{ℕ}
use native.Mathlib.Omega.{arith}
use lib.Dec.{eqb}
use lib.ListN.{length-replicate, length-take, replicate, take}
use borrow.Author.Tests.{eq-eqb, eqb-true}
use Rattle.definitions.specs.Answers.{closes_circle, count_of, edges_of, inconsistent, infeasible, judge_records, leasts_of, written}
use Rattle.definitions.specs.Basics.{Outcome, given, refused, refuse_if}
use Rattle.definitions.specs.Bytes.{Records, read}
use Rattle.definitions.specs.Clashes.{few, few_answer, few_read, few_verdict, impossible, is_impossible}
use Rattle.definitions.specs.Limits.{most_records}
use Rattle.definitions.specs.declared.Refusal.{Refusal}
use Rattle.definitions.specs.declared.Refusal.TheVariants.{NotImpossible}
use Rattle.laws.proofs.Outcomes.{given_not_refused, refused_same}
use Rattle.demands.proofs.Reading.{read_ordered}
use Rattle.judge_possible.specs.Possible.{judge_possible}
use Rattle.judge_possible.proofs.Possible.{impossible_by}
use Rattle.read_sheet.proofs.Whole.{Whole}
use Rattle.read_sheet.specs.Answers.{Holds}
use Rattle.read_sheet.specs.declared.Report.{Report}
use Rattle.clash_filter.specs.Sheets.{Filterable, Judgeable}
use Rattle.clash_sheet.specs.Reports.{Answered, EdgeWords, FewReturned, Handed, Held, Holding, RecordWords, handed, most_listed}

-- ---- by the status of 8, 10 and 11

-- What is answered: 31 where none of them refuses, 8 where forward links close a circle, else what comes of the report.
abbrev by_status : Status → Outcome ℕ → Outcome ℕ
by_status (Ok tt) rest = refused 31
by_status (Err k) rest = cond (eqb (number k) 8) (refused 8) rest

-- By the three tests: the status tells which of them passed, and with it whether the sheet is impossible.
by_tests : (circle never own : Bool) (st : Status) (clash : Bool) (rest : Outcome ℕ)
    → status_of {A = Unit {0}} st tt ≡ refuse_if circle 8 (refuse_if never 10 (refuse_if own 11 (given tt))) → is_impossible (status_of st 0) ≡ clash → refuse_if circle 8 (refuse_if (not clash) 31 rest) ≡ by_status st rest
unfolding refuse_if is_impossible
by_tests true never own (Ok tt) clash rest e h = absurd (given_not_refused e)
by_tests true never own (Err k) clash rest e h = rw (eq-eqb (number k) 8 (refused_same e)) refl
by_tests false true own (Ok tt) clash rest e h = absurd (given_not_refused e)
by_tests false true own (Err k) clash rest e h = let z : number k ≡ 10 = refused_same e in rw (← h, z) refl
by_tests false false true (Ok tt) clash rest e h = absurd (given_not_refused e)
by_tests false false true (Err k) clash rest e h = let z : number k ≡ 11 = refused_same e in rw (← h, z) refl
by_tests false false false (Ok tt) clash rest e h = rw (← h) refl
by_tests false false false (Err k) clash rest e h = absurd (given_not_refused (sym e))

few_by : (q : Records) (list : List ℕ) (st : Status) → status_of st tt ≡ judge_possible (count_of q) (edges_of q) → few_verdict q list ≡ by_status st (handed (few q) list)
unfolding few_verdict judge_possible impossible judge_records
few_by q list st e =
    by_tests (closes_circle (count_of q) (edges_of q)) (infeasible (count_of q) (edges_of q)) (inconsistent (count_of q) (edges_of q)) st (impossible q) (handed (few q) list) e
    (impossible_by (count_of q) (edges_of q) (leasts_of q) st e)

-- A refusal leaves the list as lent.
refusal_answered : (q : Records) (list : List ℕ) (k : Refusal) → few_verdict q list ≡ refused (number k) → Answered q list (Err k) list
unfolding written
refusal_answered q list k e = record { tally = sym e; numbers = ap (λ (o : Outcome ℕ). written o (few q) list) (sym e) }

module _ (q : Records) (list : List ℕ) where
  -- 31 where nothing refuses; 8; else the report is handed out.
  pub answered_done : status_of (Ok tt) tt ≡ judge_possible (count_of q) (edges_of q) → Answered q list (Err NotImpossible) list
  answered_done e = refusal_answered q list NotImpossible (few_by q list (Ok tt) e)

  module _ (k : Refusal) (e : status_of (Err k) tt ≡ judge_possible (count_of q) (edges_of q)) where
    pub answered_circle : eqb (number k) 8 ≡ true → Answered q list (Err k) list
    answered_circle h = refusal_answered q list k (few_by q list (Err k) e ∙ rw (h, eqb-true (number k) 8 h) refl)

    pub answered_report : eqb (number k) 8 ≡ false → {r : Tally} {after : List ℕ} → Handed (few q) list r after → Answered q list r after
    answered_report h {r} {after} H =
        let same : few_verdict q list ≡ handed (few q) list = few_by q list (Err k) e ∙ rw h refl in
        record { tally = H.tally ∙ sym same; numbers = H.numbers ∙ ap (λ (o : Outcome ℕ). written o (few q) list) (sym same) }

-- ---- the words

-- With room for their lists.
pub judgeable : {n : ℕ} {es : List ℕ} → EdgeWords n es → Judgeable n es (replicate most_listed 0)
judgeable w = record { sheet = w.sheet; holds = w.holds; few = w.few; long = simp length-replicate (omega (arith, w.few)) }

-- With numbers for their report.
pub filterable : {n records : ℕ} {es : List ℕ} → RecordWords n records es → Filterable n records es (replicate most_records 0)
filterable w = record { sheet = w.sheet; holds = w.holds; few = w.few; few_records = w.few_records; long = simp length-replicate refl }

-- The words that hold a sheet, as parts.
module _ {words : List ℕ} {count linked records n : ℕ} (H : Held words count linked records n) where
  pub held_edges : EdgeWords n (take count words)
  held_edges = record { sheet = H.sheet; holds = H.holds.completed; few = omega (arith, H.few, length-take count words) }

  pub held_records : RecordWords n records (take linked words)
  held_records = record { sheet = H.sheet; holds = H.holds.recorded; few = omega (arith, H.few_linked, length-take linked words); few_records = H.few_records }

-- ---- of the bytes

-- What reading refuses is refused, and the list stays.
pub few_unread : (s list : List ℕ) (k : Refusal) → read s ≡ refused (number k) → FewReturned s list (Err k) list
unfolding few_answer few_read
few_unread s list k e =
    record { tally = sym (ap (λ (o : Outcome Records). (few_read o list).verdict) e); numbers = sym (ap (λ (o : Outcome Records). (few_read o list).numbers) e) }

module _ {s words leasts : List ℕ} {report : Report} (w : Whole s words leasts report) where
  abbrev q : Records
  q = w.found.whole

  abbrev holds : Holds q words leasts report
  holds = w.found.holds

  -- The words hold the sheet: their edges are those of all its links, and the first of them those of its records.
  pub whole_holding : Holding q words report.count report.linked report.records report.n
  whole_holding =
      record { completed = record { fits = w.fits; steps = holds.n; same = holds.same }; recorded = record { sent = record { fits = w.fits; steps = holds.n; same = holds.sent }; ordered = read_ordered w.sheet; counts = holds.records } }

  pub whole_held : Held words report.count report.linked report.records report.n
  whole_held = record { sheet = q; holds = whole_holding; within = holds.within; few = holds.few; linked_within = holds.linked; few_linked = holds.few_linked; few_records = holds.few_records }

  -- What is answered of it is answered of the bytes.
  pub few_whole : (list : List ℕ) {r : Tally} {after : List ℕ} → Answered q list r after → FewReturned s list r after
  unfolding few_answer few_read
  few_whole list A =
      record { tally = A.tally ∙ sym (ap (λ (o : Outcome Records). (few_read o list).verdict) w.found.is_given); numbers = A.numbers ∙ sym (ap (λ (o : Outcome Records). (few_read o list).numbers) w.found.is_given) }
