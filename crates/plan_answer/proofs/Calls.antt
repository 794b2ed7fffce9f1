-- The answer over bytes, from what reading gives.
use mathlib.Core.Path.{◌≡◌, refl, sym, ap, ◌∙◌}
use mathlib.Core.Bool.{Bool, true}
use mathlib.Core.List.{List}
use Prim.Native.Nat.{ℕ}
use lib.ListN.{length, replicate}
use Rattle.judge_edges.specs.declared.Found.{Found}
use Rattle.definitions.specs.Answers.{Written, count_of, leasts_of, edges_of, judge_edges, judge_records, judged, no_waits, plan_read, plan_verdict, planned, serialized_of, starts_answer, starts_read, starts_verdict, too_short, waits_answer, waits_read, waits_when, written}
use Rattle.definitions.specs.Basics.{Outcome, given, refused, refuse_if, when_given}
use Rattle.definitions.specs.Bytes.{Records, read}
use Rattle.definitions.specs.Limits.{most_steps}
use Rattle.definitions.specs.Numbers.{verdict_of}
use Rattle.definitions.specs.declared.Operation.{Operation}
use Rattle.data_edges.specs.Serial.{leasts_in}
use Rattle.demands.proofs.Judging.{judged_edges}
use Rattle.demands.proofs.Reading.{Fits}
use Rattle.read_sheet.specs.Answers.{Holds}
use Rattle.read_sheet.specs.declared.Report.{Report}
use Rattle.plan_answer.specs.Questions.{Answers, Responds, StepsHeld, WaitsOf, answered, check, numbers_of, outcome}
use Rattle.plan_answer.specs.declared.Question.{Question}
use Rattle.plan_answer.specs.declared.Question.TheVariants.{Judgement, Plan, Starts}
use Rattle.plan_answer.proofs.Held.{by_held, word_edges}
use Rattle.plan_answer.proofs.Writing.{when_passes, written_nothing}

-- Where reading refuses, each question is refused so, the lent numbers stay, and there are no waits.
module _ (s : List ℕ) {k : ℕ} (e : read s ≡ refused k) where
  answered_refused : (question : Question) (allow : Bool) (list out : List ℕ) → answered question s allow list out ≡ record { verdict = refused k; numbers = out }
  unfolding judged when_given planned plan_read starts_answer starts_read
  answered_refused Judgement allow list out = rw e
  answered_refused Plan allow list out = rw e
  answered_refused Starts allow list out = rw e

  pub refused_answers : (question : Question) (allow : Bool) (list out : List ℕ) {r : Found} {maps : List ℕ} → verdict_of r.verdict ≡ refused k → maps ≡ replicate most_steps 0 → r.count ≡ 0 → Answers question s allow list out r out maps
  unfolding waits_answer waits_read no_waits
  refused_answers question allow list out v m n =
      let same = answered_refused question allow list out in
      record { verdict = v ∙ sym (ap (λ (w : Written). w.verdict) same); numbers = sym (ap (λ (w : Written). w.numbers) same); maps = rw e m; count = rw e n }

-- The waits of a sheet's steps and edges are those that are listed of its records.
waits_when_same : (q : Records) (o : Outcome ℕ) {maps : List ℕ} {count : ℕ} → judge_edges (count_of q) (leasts_of q) (edges_of q) true ≡ o → WaitsOf (count_of q) (leasts_of q) (edges_of q) maps count → (maps ≡ (waits_when q o).maps) × (count ≡ (waits_when q o).count)
unfolding waits_when no_waits
waits_when_same q (given v) h w = w.found v h
waits_when_same q (refused k) h w = w.blank k h

-- Listing waits gives the verdict of judging with waits allowed.
when_verdict : (q : Records) (o : Outcome ℕ) → o ≡ (waits_when q o).verdict
unfolding waits_when no_waits
when_verdict q (given v) = refl
when_verdict q (refused k) = refl

read_verdict : (o : Outcome Records) → when_given o (λ q. judge_records q true) ≡ (waits_read o).verdict
unfolding when_given waits_read no_waits
read_verdict (given q) = when_verdict q (judge_records q true)
read_verdict (refused k) = refl

pub waits_verdict : (s : List ℕ) → judged s true ≡ (waits_answer s).verdict
unfolding judged waits_answer
waits_verdict s = read_verdict (read s)

-- The answer as the steps and edges of a sheet have it.
abbrev by_edges : Question → Records → Bool → List ℕ → List ℕ → Written
by_edges question q allow list out =
    let o = outcome question (count_of q) (leasts_of q) (edges_of q) allow q.steps list out in
    record { verdict = o; numbers = written o (numbers_of question (count_of q) (leasts_of q) (edges_of q) list) out }

-- Where the sheet is read, each question is answered by its steps and edges.
module _ (s : List ℕ) {q : Records} (e : read s ≡ given q) where
  answered_given : (question : Question) (allow : Bool) (list out : List ℕ) → answered question s allow list out ≡ by_edges question q allow list out
  unfolding outcome check refuse_if planned plan_read plan_verdict starts_answer starts_read starts_verdict judge_records serialized_of too_short
  answered_given Judgement allow list out =
      let same : judged s allow ≡ outcome Judgement (count_of q) (leasts_of q) (edges_of q) allow q.steps list out = judged_edges s e allow ∙ sym (when_passes (judge_edges (count_of q) (leasts_of q) (edges_of q) allow) (check Judgement (count_of q) q.steps list (length out)) (λ v. refl)) in
      ap (λ (o : Outcome ℕ). record { verdict = o; numbers = out }) same
      ∙ ap (λ (l : List ℕ). record { verdict = outcome Judgement (count_of q) (leasts_of q) (edges_of q) allow q.steps list out; numbers = l }) (written_nothing (outcome Judgement (count_of q) (leasts_of q) (edges_of q) allow q.steps list out) out)
  answered_given Plan allow list out = rw e
  answered_given Starts allow list out = rw e

  waits_given : {maps : List ℕ} {count : ℕ} → WaitsOf (count_of q) (leasts_of q) (edges_of q) maps count → (maps ≡ (waits_answer s).maps) × (count ≡ (waits_answer s).count)
  unfolding waits_answer waits_read judge_records
  waits_given w = rw e (waits_when_same q (judge_edges (count_of q) (leasts_of q) (edges_of q) true) refl w)

  pub given_answers : (question : Question) (allow : Bool) (list out : List ℕ) {r : Found} {after maps : List ℕ} → Responds question (count_of q) (leasts_of q) (edges_of q) allow q.steps list out r after maps → Answers question s allow list out r after maps
  given_answers question allow list out responds =
      let same = sym (answered_given question allow list out) in
      let waits = waits_given responds.waits in
      record { verdict = responds.verdict ∙ ap (λ (w : Written). w.verdict) same; numbers = responds.numbers ∙ ap (λ (w : Written). w.numbers) same; maps = waits.0; count = waits.1 }

-- The answer of a sheet as it is held, from that of the words that stand for its edges.
module _ {q : Records} {words leasts : List ℕ} {report : Report} (fits : Fits q) (holds : Holds q words leasts report) where
  pub sheet_responds : (question : Question) (allow : Bool) (list out : List ℕ) {r : Found} {after maps : List ℕ} → ((os : List Operation) → StepsHeld report.n report.unbounded leasts os → Responds question report.n (leasts_in leasts) (word_edges words report) allow os list out r after maps) → Responds question (count_of q) (leasts_of q) (edges_of q) allow q.steps list out r after maps
  sheet_responds question allow list out {r} {after} {maps} answer =
      by_held fits holds (λ n least g. Responds question n least g allow q.steps list out r after maps)
      (answer q.steps (record { long = sym holds.n; opens = holds.opens; least = holds.least }))
