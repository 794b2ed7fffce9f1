-- The planner's answer as a number. The operand that the planner was asked with comes beside its answer, so that a wrong one is met before the answers are compared.
use mathlib.Core.Path.{◌≡◌, ap, refl, subst, ◌∙◌}
use Rattle.std.specs.Prelude.{Err, Ok}
use Rattle.definitions.specs.declared.Acceptance.TheVariants as Acceptances
use Rattle.definitions.specs.Numbers.{Status, Verdict, status_of, verdict_of}
use mathlib.Core.Bool.{Bool}
use mathlib.Core.List.{List}
use Prim.Native.Nat.{ℕ, ◌<◌, ◌≤◌}
use native.Mathlib.Omega.{arith}
use Rattle.definitions.specs.Answers.{Beginning, Written, waits_answer}
use Rattle.definitions.specs.Basics.{Outcome, given, when_given}
use Rattle.definitions.specs.Dispatcher.{Progress}
use Rattle.definitions.specs.Worked.{idle}
use Rattle.definitions.specs.declared.WaitMaps.{WaitMaps}
use Rattle.plan_answer.specs.Returned.{WaitsReturned}
use Rattle.data_numbers.specs.Codes.{call_code, code, refusals_past}
use Rattle.run_sheet.specs.Steps.{Returns}
use Rattle.c_planner.specs.Memory.{BeginsInto, ListsInto, WritesInto, left}

-- A verdict.
pub coded : {r : ℕ} {v : Outcome ℕ} {asked : Bool} (answer : Bool → Outcome ℕ) (allow : Bool) → v ≡ answer asked → asked ≡ allow → r ≡ code v → r ≡ code (answer allow)
coded answer allow e same c = c ∙ ap code (e ∙ ap answer same)

-- A verdict, and the lent numbers after it.
pub written : {r : ℕ} {v : Outcome ℕ} {after : List ℕ} {asked : Bool} (answer : Bool → Written) (allow : Bool) → (v ≡ (answer asked).verdict) × (after ≡ (answer asked).numbers) → asked ≡ allow → r ≡ code v → WritesInto (answer allow) r after
written answer allow e same c =
    record { verdict = c ∙ ap code (e.0 ∙ ap (λ (b : Bool). (answer b).verdict) same); numbers = e.1 ∙ ap (λ (b : Bool). (answer b).numbers) same }

-- The number of a verdict tells a refusal from an answer.
left_refused : {A : Type 0} (v : Verdict) (answer lent : A) → refusals_past ≤ code (verdict_of v) → lent ≡ left (verdict_of v) answer lent
left_refused (Ok Acceptances.WellPosed) answer lent b = absurd (omega arith)
left_refused (Ok Acceptances.Serialized) answer lent b = absurd (omega arith)
left_refused (Err k) answer lent b = refl

left_given : {A : Type 0} (v : Verdict) (answer lent : A) → code (verdict_of v) < refusals_past → answer ≡ left (verdict_of v) answer lent
left_given (Ok Acceptances.WellPosed) answer lent b = refl
left_given (Ok Acceptances.Serialized) answer lent b = refl
left_given (Err k) answer lent b = absurd (omega arith)

-- Waits: what judging lists, of which nothing is stored on a refusal.
module _ {s : List ℕ} (maps : List ℕ) (count : ℕ) {found : WaitMaps} {r : ℕ} (lists : WaitsReturned s found) (coded : r ≡ code (verdict_of found.verdict)) where
  verdict : r ≡ code (waits_answer s).verdict
  verdict = coded ∙ ap code lists.verdict

  -- What is left for the verdict returned is left for the definition's.
  same_left : {A : Type 0} (a lent : A) → left (verdict_of found.verdict) a lent ≡ left (waits_answer s).verdict a lent
  same_left a lent = ap (λ (o : Outcome ℕ). left o a lent) lists.verdict

  pub lists_as_lent : refusals_past ≤ r → ListsInto (waits_answer s) maps count r maps count
  lists_as_lent b = record { verdict = verdict; maps = kept (waits_answer s).maps maps; count = kept (waits_answer s).count count }
    where
      kept : {A : Type 0} (a lent : A) → lent ≡ left (waits_answer s).verdict a lent
      kept a lent = left_refused found.verdict a lent (subst (λ (x : ℕ). refusals_past ≤ x) coded b) ∙ same_left a lent

  pub lists_stored : r < refusals_past → ListsInto (waits_answer s) maps count r found.maps found.count
  lists_stored b = record { verdict = verdict; maps = lists.maps ∙ stored (waits_answer s).maps maps; count = lists.count ∙ stored (waits_answer s).count count }
    where
      stored : {A : Type 0} (a lent : A) → a ≡ left (waits_answer s).verdict a lent
      stored a lent = left_given found.verdict a lent (subst (λ (x : ℕ). x < refusals_past) coded b) ∙ same_left a lent

-- What a run is begun with: a status has the same number beside whatever it stands.
status_coded : (s : Status) (g : Progress) (b : Beginning) → call_code (status_of s g) ≡ code (when_given (status_of s b) (λ b. given 0))
unfolding when_given
status_coded (Ok tt) g b = refl
status_coded (Err k) g b = refl

pub begins_into : {outcome : Outcome Beginning} {lent after : Beginning} {s : Status} {r : ℕ} → Returns outcome lent s after → ((g : Progress) → r ≡ call_code (status_of s g)) → BeginsInto outcome lent r after
begins_into {after = after} {s = s} R coded =
    let any : Progress = record { state = idle; map = 0 } in
    record { status = coded any ∙ status_coded s any after ∙ ap (λ (o : Outcome Beginning). code (when_given o (λ b. given 0))) R.answer; n = R.n; unbounded = R.unbounded; leasts = R.leasts }
