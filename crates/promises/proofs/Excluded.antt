-- Wrong answers that the contracts exclude, shown on a worked sheet where no edit of the code has that answer and keeps its shape.
use mathlib.Core.Path.{◌≡◌, refl, sym, ◌∙◌}
use Rattle.definitions.specs.Numbers.{Verdict, verdict_of}
use mathlib.Core.Bool.{Bool, true, false}
use Prim.Native.Nat.{ℕ}
use Rattle.definitions.specs.Answers.{edges_of, judged}
use Rattle.definitions.specs.Basics.{any, given, refused, when_given}
use Rattle.definitions.specs.Bytes.{read}
use Rattle.definitions.specs.Worked.{every_definition, stand}
use Rattle.laws.proofs.Outcomes.{given_not_refused}
use Rattle.plan_answer.specs.Returned.{JudgeReturned}

-- The stand sheet has a return, and is accepted. Computed.
stand_return : when_given (read (stand 2)) (λ q. given (any (λ e. e.back) (edges_of q))) ≡ given true
unfolding every_definition
stand_return = refl

stand_judged : (allow : Bool) → judged (stand 2) allow ≡ given 0
unfolding every_definition judged
stand_judged true = refl
stand_judged false = refl

-- A planner that calls each sheet with a return impossible.
pub return_not_impossible : (allow : Bool) (r : Verdict) (k : ℕ) → JudgeReturned (stand 2) allow r → ¬ (verdict_of r ≡ refused k)
return_not_impossible allow r k e h = given_not_refused (sym (stand_judged allow) ∙ sym e.verdict ∙ h)
