-- By cases on the delay, then by whether it is step 0, then by what is said of a least.
use mathlib.Core.Path.{ap, sym, ◌∙◌}
use Rattle.std.specs.Prelude.{None, Some}
use Prim.Native.Nat.{ℕ, ◌+◌}
use native.Mathlib.Omega.{arith}
use Rattle.definitions.specs.Links.{ticks_said}
use Rattle.data_edges.specs.Words.{counted_place}
use Rattle.read_steps.proofs.Leasts.{added_fixed, added_open, added_source}
use Rattle.read_steps.proofs.added_by.Goals as goal

-- Step 0.
pub returns-then-i-lt1 : goal.returns-then-i-lt1
returns-then-i-lt1 c = sym (added_source _ _ (omega (arith, c.if-i-lt1.true)) c.in-Open.is)

-- A fixed step.
pub returns-in-Fixed : goal.returns-in-Fixed
returns-in-Fixed c = c.gain_digits.ensures ∙ sym (added_fixed _ _ _ c.in-Fixed.is)

-- An open one of which no least is said, and one with a least.
pub returns-in-None : goal.returns-in-None
unfolding ticks_said
returns-in-None c = sym (added_open _ _ None (λ e. omega (arith, c.if-i-lt1.false, e)) c.in-Open.is c.in-None.is)

pub returns-in-Some : goal.returns-in-Some
unfolding ticks_said
returns-in-Some c =
    ap (λ (x : ℕ). counted_place + x) c.gain_digits-in-Some.ensures
    ∙ sym (added_open _ _ (Some _) (λ e. omega (arith, c.if-i-lt1.false, e)) c.in-Open.is c.in-Some.is)
