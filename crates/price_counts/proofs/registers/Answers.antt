-- By whether the step is open.
use mathlib.Core.Path.{sym, ap, ◌∙◌}
use Prim.Native.Nat.{ℕ}
use native.Mathlib.Omega.{arith}
use lib.ListN.{get_or}
use Rattle.price_counts.proofs.Entries.{registers_fixed, registers_open}
use Rattle.price_counts.proofs.registers.Goals as goal

pub returns-then-not-has : goal.returns-then-not-has
returns-then-not-has c = record { value = registers_fixed _ _ _ _ _ (sym c.has.ensures ∙ c.if-not-has.true); small = omega arith }

pub returns : goal.returns
returns c =
    record {
      value =
          c.look_up.ensures.value
          ∙ ap (λ (k : ℕ). get_or c.args.entries.now k 0) c.largest_offset-most.ensures
          ∙ registers_open _ _ _ _ _ (sym c.has.ensures ∙ c.if-not-has.false);
      small = c.look_up.ensures.small;
    }
