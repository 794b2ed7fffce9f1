-- `plan_answer::write` meets its contract: nothing is written for a judgement; a plan and start times are read off tables that hold the walks and anchor sets of the edges with the waits in.
use mathlib.Core.Path.{refl}
use Rattle.theory.proofs.Plans.{plan_lasting, plan_posed, plan_well}
use Rattle.plan_answer.proofs.Overriding.{holds_orderly}
use Rattle.plan_answer.proofs.Writing.{plan_stands}
use Rattle.plan_answer.proofs.write.Goals as goal

pub returns-in-Plan : goal.returns-in-Plan
returns-in-Plan c g l t fits =
    plan_stands _ _ g _ _ c.in-Plan.is
    (c.fill_plan.ensures.plan _ _ (plan_lasting _ t.well t.serial l.leasts l.source) (λ a b. refl) t.holds (holds_orderly (plan_well _ t.well t.serial) (plan_posed _ t.well t.serial) t.holds))
