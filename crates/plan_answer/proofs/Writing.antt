-- What is answered from a verdict: 13 and 14 after it, and then numbers at the front of those that are lent.
use mathlib.Core.Path.{◌≡◌, refl, sym, ap, ◌∙◌}
use mathlib.Core.Bool.{Bool, true, false, ◌||◌, true≢false, false≢true}
use mathlib.Core.List.{List, [], ◌++◌}
use Prim.Native.Nat.{ℕ, ◌*◌, ◌<◌, ◌≤◌}
use lib.Dec.{ltb}
use lib.IntN.{ℤ}
use lib.ListN.{drop, length}
use borrow.Author.Tests.{le-ltb, lt-ltb, ltb-false}
use Rattle.judge_edges.specs.Analysis.{Listed}
use Rattle.judge_edges.specs.declared.Found.{Found}
use Rattle.definitions.specs.Answers.{judge_edges, written}
use Rattle.definitions.specs.Basics.{Outcome, given, refused, refuse_if, when_given}
use Rattle.definitions.specs.Limits.{most_gain, most_steps}
use Rattle.definitions.specs.Links.{Edge, least_at, members}
use Rattle.definitions.specs.Plan.{delays, plan_table, start_times}
use Rattle.definitions.specs.Waits.{serialized}
use Rattle.definitions.specs.declared.Operation.{Operation}
use Rattle.laws.proofs.Bools.{or_left}
use Rattle.data_numbers.specs.Codes.{is_given}
use Rattle.plan_starts.proofs.Accepted.{plan_starts_fit}
use Rattle.plan_walks.specs.Tables.{Tabulated}
use Rattle.theory.specs.Graphs.{Gains, SheetLeasts}
use Rattle.theory.proofs.PlanTables.{plan_table_length}
use Rattle.theory.proofs.StartTimes.{start_times_length}
use Rattle.plan_answer.specs.Questions.{Fitting, Responds, check, list_wrong, numbers_of, outcome, short}
use Rattle.plan_answer.specs.declared.Question.{Question}
use Rattle.plan_answer.specs.declared.Question.TheVariants.{Judgement, Plan, Starts}

-- A refusal is not checked any further; of an answer the check's own refusal stays, and an answer that passes stays as it is.
pub when_refused : (o : Outcome ℕ) (f : ℕ → Outcome ℕ) → is_given o ≡ false → when_given o f ≡ o
unfolding when_given
when_refused (given v) f h = absurd (true≢false h)
when_refused (refused k) f h = refl

when_fails : (o : Outcome ℕ) (f : ℕ → Outcome ℕ) (k : ℕ) → is_given o ≡ true → ((v : ℕ) → f v ≡ refused k) → when_given o f ≡ refused k
unfolding when_given
when_fails (given v) f k h e = e v
when_fails (refused l) f k h e = absurd (false≢true h)

pub when_passes : (o : Outcome ℕ) (f : ℕ → Outcome ℕ) → ((v : ℕ) → f v ≡ given v) → when_given o f ≡ o
unfolding when_given
when_passes (given v) f e = e v
when_passes (refused k) f e = refl

-- 13, 14, and neither, after a verdict.
module _ (o : Outcome ℕ) (question : Question) (n : ℕ) (os : List Operation) (list : List ℕ) (room : ℕ) where
  pub wrong_refused : is_given o ≡ true → list_wrong question os list ≡ true → refused 13 ≡ when_given o (check question n os list room)
  unfolding check refuse_if
  wrong_refused h k = sym (when_fails o (check question n os list room) 13 h (λ v. rw k))

  pub short_refused : is_given o ≡ true → list_wrong question os list ≡ false → short question n (length list) room ≡ true → refused 14 ≡ when_given o (check question n os list room)
  unfolding check refuse_if
  short_refused h k l = sym (when_fails o (check question n os list room) 14 h (λ v. rw (k, l)))

  pub passes : list_wrong question os list ≡ false → short question n (length list) room ≡ false → o ≡ when_given o (check question n os list room)
  unfolding check refuse_if
  passes k l = sym (when_passes o (check question n os list room) (λ v. rw (k, l)))

-- A list of which something is answered is not refused by 13.
unwrong : (o : Outcome ℕ) (b : Bool) (rest : ℕ → Outcome ℕ) → is_given (when_given o (λ v. refuse_if b 13 (rest v))) ≡ true → b ≡ false
unfolding when_given refuse_if
unwrong (given v) true rest h = absurd (false≢true h)
unwrong (given v) false rest h = refl
unwrong (refused k) b rest h = absurd (false≢true h)

pub list_right : (o : Outcome ℕ) (question : Question) (n : ℕ) (os : List Operation) (list : List ℕ) (room : ℕ) {p : Outcome ℕ} → p ≡ when_given o (check question n os list room) → is_given p ≡ true → list_wrong question os list ≡ false
unfolding check
list_right o question n os list room checks h = unwrong o (list_wrong question os list) _ (ap is_given (sym checks) ∙ h)

-- Room enough, by what is asked.
pub plan_room : {question : Question} (n list room : ℕ) → question ≡ Plan → short question n list room ≡ false → n * n ≤ room
plan_room n list room e h = ltb-false room (n * n) (rw e at h)

neither : (a b : Bool) → (a || b) ≡ false → (a ≡ false) × (b ≡ false)
neither true b h = absurd (true≢false h)
neither false b h = (refl, h)

pub starts_room : {question : Question} (n list room : ℕ) → question ≡ Starts → short question n list room ≡ false → (n ≤ list) × (n ≤ room)
starts_room n list room e h =
    let p = neither (ltb list n) (ltb room n) (rw e at h) in
    (ltb-false list n p.0, ltb-false room n p.1)

pub list_short : (n list room : ℕ) → list < n → true ≡ (ltb list n || ltb room n)
list_short n list room h = sym (or_left (ltb room n) (lt-ltb list n h))

pub list_long : (n list room : ℕ) → n ≤ list → ltb room n ≡ (ltb list n || ltb room n)
list_long n list room h = rw (le-ltb list n h)

-- The numbers that are asked for stand at the front, by what is asked.
abbrev Stand : Question → ℕ → (ℕ → ℕ) → List Edge → List ℕ → List ℕ → List ℕ → Type 0
Stand question n least g list out after = after ≡ numbers_of question n least g list ++ drop (length (numbers_of question n least g list)) out

module _ {question : Question} (n : ℕ) (least : ℕ → ℕ) (g : List Edge) (list out : List ℕ) {after : List ℕ} where
  pub nothing_stands : question ≡ Judgement → after ≡ out → Stand question n least g list out after
  nothing_stands e w = rw e w

  pub plan_stands : question ≡ Plan → after ≡ plan_table n least (serialized n least g) ++ drop (n * n) out → Stand question n least g list out after
  plan_stands e w = rw e (w ∙ ap (λ (m : ℕ). plan_table n least (serialized n least g) ++ drop m out) (sym (plan_table_length n least (serialized n least g))))

  pub starts_stand : question ≡ Starts → Fitting question n least g list → (Fitting Starts n least g list → after ≡ start_times n least (serialized n least g) (delays list) ++ drop n out) → Stand question n least g list out after
  starts_stand e fits w =
      rw e (w (rw e at fits) ∙ ap (λ (m : ℕ). start_times n least (serialized n least g) (delays list) ++ drop m out) (sym (start_times_length n least (serialized n least g) (delays list))))

-- The start times of a list that is not refused have 32 bits.
module _ {n : ℕ} {least : ℕ → ℕ} {g : List Edge} {number : List ℕ} {d : List (List ℤ)} {sets : List ℕ} (t : Tabulated n least g number d sets) (gains : Gains (members g) most_gain) (leasts : SheetLeasts least (members g)) (few : n ≤ most_steps) where
  pub fitting : (question : Question) (os : List Operation) (list : List ℕ) (room : ℕ) → length os ≡ n → ((a : ℕ) → least a ≡ least_at os a) → list_wrong question os list ≡ false → short question n (length list) room ≡ false → Fitting question n least g list
  fitting Judgement os list room long same right h = tt
  fitting Plan os list room long same right h = tt
  fitting Starts os list room long same right h = plan_starts_fit least t.well t.serial leasts.leasts gains few os list long (λ a b. same a) (starts_room {question = Starts} n (length list) room refl h).0 right

-- On a refusal the lent numbers stay; else the new ones stand at their front.
written_refused : (o : Outcome ℕ) (new lent : List ℕ) → is_given o ≡ false → lent ≡ written o new lent
unfolding written
written_refused (given v) new lent h = absurd (true≢false h)
written_refused (refused k) new lent h = refl

written_given : (o : Outcome ℕ) (new lent : List ℕ) → is_given o ≡ true → written o new lent ≡ new ++ drop (length new) lent
unfolding written
written_given (given v) new lent h = refl
written_given (refused k) new lent h = absurd (false≢true h)

pub written_nothing : (o : Outcome ℕ) (lent : List ℕ) → lent ≡ written o [] lent
unfolding written
written_nothing (given v) lent = refl
written_nothing (refused k) lent = refl

-- The answer, where something refuses, and where the numbers are written.
module _ (question : Question) (n : ℕ) (least : ℕ → ℕ) (g : List Edge) (allow : Bool) (os : List Operation) (list out : List ℕ) {o p : Outcome ℕ} (judges : o ≡ judge_edges n least g allow) (checks : p ≡ when_given o (check question n os list (length out))) where
  pub outcome_of : p ≡ outcome question n least g allow os list out
  unfolding outcome
  outcome_of = checks ∙ ap (λ (q : Outcome ℕ). when_given q (check question n os list (length out))) judges

  pub refused_stays : is_given p ≡ false → out ≡ written (outcome question n least g allow os list out) (numbers_of question n least g list) out
  refused_stays h = written_refused (outcome question n least g allow os list out) (numbers_of question n least g list) out (ap is_given (sym outcome_of) ∙ h)

  pub given_written : {after : List ℕ} → is_given p ≡ true → Stand question n least g list out after → after ≡ written (outcome question n least g allow os list out) (numbers_of question n least g list) out
  given_written h w = w ∙ sym (written_given (outcome question n least g allow os list out) (numbers_of question n least g list) out (ap is_given (sym outcome_of) ∙ h))

-- Of a judgement nothing more is asked.
judged_outcome : (n : ℕ) (least : ℕ → ℕ) (g : List Edge) (allow : Bool) (os : List Operation) (list out : List ℕ) → judge_edges n least g allow ≡ outcome Judgement n least g allow os list out
unfolding outcome check refuse_if
judged_outcome n least g allow os list out = sym (when_passes (judge_edges n least g allow) (check Judgement n os list (length out)) (λ v. refl))

pub judged_responds : {question : Question} (n : ℕ) (least : ℕ → ℕ) (g : List Edge) (allow : Bool) (os : List Operation) (list out : List ℕ) {r : Found} {maps : List ℕ} → question ≡ Judgement → Listed n g (judge_edges n least g) allow r.verdict maps r.count → Responds question n least g allow os list out r out maps
judged_responds n least g allow os list out {r} {maps} e listed =
    let base : Responds Judgement n least g allow os list out r out maps = record { verdict = listed.judges ∙ judged_outcome n least g allow os list out; numbers = written_nothing _ out; waits = record { found = listed.found; blank = listed.blank } } in
    rw e base
