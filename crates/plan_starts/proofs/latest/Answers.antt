-- A turn takes the smallest member left; where it is past n, no other is below n.
use Rattle.std.proofs.Common.{◌≡◌, false, ℕ, sym, ap, ◌∙◌, arith}
use Rattle.definitions.specs.Basics.{test_bit}
use Rattle.laws.proofs.Maps.{test_zero}
use Rattle.plan_starts.proofs.Laws.{none_taken, one_taken, all_taken}
use Rattle.plan_starts.proofs.latest.Goals as goal

pub loop-a-init : goal.loop-a-init
loop-a-init c =
    let all : c.into_iter-a-iterator.result.left ≡ c.args.members = cc in
    rw all (none_taken _ _ _ _ _ _ _)

pub returns-then-n-a : goal.returns-then-n-a
returns-then-n-a c =
    sym (all_taken _ _ _ _ _ _ _ c.loop-a.a-iterator.left (λ k b. c.in-Some.ensures.steps.0.least k (omega arith))) ∙ c.loop-a.invariant

pub term_of-requires : goal.term_of-requires
term_of-requires c = record { row = c.requires.0; column = c.in-Some.ensures.steps.0.below; entered = omega arith }

pub loop-a-preserved : goal.loop-a-preserved
loop-a-preserved c =
    one_taken _ _ _ _ _ _ _ _ _ _ _ _ (omega arith) c.in-Some.ensures.steps.0.member c.term_of.ensures c.max-most.ensures c.in-Some.ensures.steps.1
    ∙ c.loop-a.invariant

pub returns : goal.returns
returns c =
    let none : (k : ℕ) → test_bit c.loop-a.a-iterator.left k ≡ false = λ k. ap (λ (x : ℕ). test_bit x k) c.in-None.ensures.steps.0 ∙ test_zero k in
    sym (all_taken _ _ _ _ _ _ _ c.loop-a.a-iterator.left (λ k b. none k)) ∙ c.loop-a.invariant
