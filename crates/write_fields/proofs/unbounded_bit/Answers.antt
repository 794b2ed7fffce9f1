-- By the delay.
use mathlib.Core.Path.{subst, sym}
use Prim.Native.Nat.{ℕ}
use Rattle.definitions.specs.Writer.{open_bit}
use Rattle.write_fields.specs.Sizes.{BitFor}
use Rattle.write_fields.proofs.Records.{open_absent, open_there}
use Rattle.write_fields.proofs.unbounded_bit.Goals as goal
use Rattle.write_fields.proofs.unbounded_bit.Goals.{in-Open, in_default}

pub returns : goal.returns
returns c =
    subst (λ (r : ℕ). BitFor 1 (open_bit c.args.d) r) (sym c.from.ensures)
    (elim c.match-matches.branch [ in-Open w ↦ open_there w.in-Open.is w.matches-is | in_default w ↦ open_absent w.in_default.is w.matches-is ])
