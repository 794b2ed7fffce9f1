-- By the test: a member less, or the map as it is.
use mathlib.Core.Path.{◌≡◌, sym, ap, ◌∙◌}
use mathlib.Core.Bool.{Bool, not, ◌&&◌, and-true, and-false}
use lib.Dec.{eqb}
use Rattle.definitions.specs.Basics.{test_bit}
use Rattle.plan_deciding.proofs.remove_if.Goals as goal

pub returns-then-out : goal.returns-then-out
returns-then-out c j =
    let args = c.args in
    let stands : (eqb j args.a && args.out) ≡ eqb j args.a = rw c.if-out.true (and-true (eqb j args.a)) in
    c.remove.ensures j ∙ ap (λ (t : Bool). test_bit args.map j && not t) (sym stands)

pub returns : goal.returns
returns c j =
    let args = c.args in
    sym (rw (c.if-out.false, and-false (eqb j args.a)) (and-true (test_bit args.map j)))
