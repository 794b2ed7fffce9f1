-- `plan_answer::checked` meets its contract, path by path: a refusal before, 13, 14, none.
use Rattle.std.proofs.Common.{sym, ◌∙◌}
use mathlib.Core.Bool.{false≢true}
use Rattle.laws.proofs.Bools.{both_ways}
use Rattle.plan_answer.proofs.Writing.{passes, short_refused, when_refused, wrong_refused}
use Rattle.plan_answer.proofs.checked.Goals as goal

pub returns-then-not-accepted : goal.returns-then-not-accepted
returns-then-not-accepted c =
    let no = sym c.accepted.ensures ∙ c.if-not-accepted.true in
    record { checks = λ os o. sym (when_refused _ _ no); accepted = λ h. h; fits = λ h. absurd (both_ways h no) }

pub returns-then-wrong_list : goal.returns-then-wrong_list
returns-then-wrong_list c =
    record {
      checks = λ os o. wrong_refused _ _ _ os _ _ (sym c.accepted.ensures ∙ c.if-not-accepted.false) (sym (c.wrong_list.ensures os o) ∙ c.if-wrong_list.true);
      accepted = λ h. absurd (false≢true h);
      fits = λ h. absurd (false≢true h);
    }

pub returns-then-too_short : goal.returns-then-too_short
returns-then-too_short c =
    record {
      checks = λ os o. short_refused _ _ _ os _ _ (sym c.accepted.ensures ∙ c.if-not-accepted.false) (sym (c.wrong_list.ensures os o) ∙ c.if-wrong_list.false) (sym c.too_short.ensures ∙ c.if-too_short.true);
      accepted = λ h. absurd (false≢true h);
      fits = λ h. absurd (false≢true h);
    }

pub returns : goal.returns
returns c =
    let long = sym c.too_short.ensures ∙ c.if-too_short.false in
    record {
      checks = λ os o. passes _ _ _ os _ _ (sym (c.wrong_list.ensures os o) ∙ c.if-wrong_list.false) long;
      accepted = λ h. sym c.accepted.ensures ∙ c.if-not-accepted.false;
      fits = λ h. long;
    }
