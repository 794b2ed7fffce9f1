-- By whether it is there.
use mathlib.Core.Path.{sym, ap}
use mathlib.Core.Bool.{Bool}
use Rattle.definitions.specs.Bytes.{bound_from}
use Rattle.write_numbers.proofs.bound_from.Goals as goal

pub returns-then-there : goal.returns-then-there
unfolding bound_from
returns-then-there c = sym (ap (λ (b : Bool). bound_from b c.args.ticks) c.if-there.true)

pub returns-else-there : goal.returns-else-there
unfolding bound_from
returns-else-there c = sym (ap (λ (b : Bool). bound_from b c.args.ticks) c.if-there.false)
