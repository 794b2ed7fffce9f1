-- On a report the count is stored; a refusal is told by its number, and the count stays.
use mathlib.Core.Path.{sym, ap, ◌∙◌}
use Prim.Native.Nat.{ℕ}
use Rattle.definitions.specs.Basics.{Outcome}
use Rattle.definitions.specs.Numbers.{tally_of}
use Rattle.data_numbers.specs.Codes.{count_left, tally_code}
use Rattle.c_clashes.proofs.standplan_clashes.Goals as goal

pub returns-in-Ok : goal.returns-in-Ok
returns-in-Ok c =
    let lent = c.args.count.now in
    let answer = sym (ap tally_of c.in-Ok.is) ∙ c.clashes-tally.ensures.tally in
    record { verdict = ap tally_code answer; numbers = c.clashes-tally.ensures.numbers; count = ap (λ (o : Outcome ℕ). count_left o lent) answer }

pub returns : goal.returns
returns c =
    let lent = c.args.count.now in
    let answer = sym (ap tally_of c.in_default.is) ∙ c.clashes-tally.ensures.tally in
    record { verdict = c.tally_code.ensures ∙ ap tally_code c.clashes-tally.ensures.tally; numbers = c.clashes-tally.ensures.numbers; count = ap (λ (o : Outcome ℕ). count_left o lent) answer }
