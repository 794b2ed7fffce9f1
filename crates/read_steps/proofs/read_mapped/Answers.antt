-- Each arm of the match on the map is one law of Parts, with what the step adds by a law of Taking.
use mathlib.Core.Path.{ap, sym, ◌∙◌}
use Rattle.std.specs.Prelude.{None}
use Prim.Native.Nat.{ℕ}
use native.Mathlib.Omega.{arith}
use lib.Dec.{eqb}
use borrow.Author.Tests.{eq-eqb, ne_eqb}
use Rattle.definitions.specs.declared.Delay.TheVariants.{Open}
use Rattle.read_steps.specs.Leaving.{added}
use Rattle.read_steps.specs.Parts.{operation_mapped, fixed, slow}
use Rattle.read_steps.proofs.Parts.{map_first, map_above, mapped_refused, mapped_zero, mapped_open, mapped_fixed, mapped_slow}
use Rattle.read_steps.proofs.Taking.{taken_fixed, taken_open, reads_same}
use Rattle.read_steps.proofs.read_mapped.Goals as goal

-- Step 0: map 1, and any other.
pub returns-then-i-eq0 : goal.returns-then-i-eq0
returns-then-i-eq0 c =
    taken_open _ _ _ _ _ _ _ c.requires.begins (mapped_open _ _ _ c.if-m-ne1.false) (c.added_by.ensures ∙ ap (added 0) c.untimed.ensures ∙ ap (λ (j : ℕ). added j (record { delay = Open; least = None })) (sym c.if-i-eq0.true))

pub returns-then-m-ne1 : goal.returns-then-m-ne1
returns-then-m-ne1 c = mapped_refused _ _ _ (rw (eq-eqb _ _ c.if-i-eq0.true) (map_first _ (λ e. omega (arith, e))))

-- Another step: maps 0 and 1.
pub returns-in-0 : goal.returns-in-0
returns-in-0 c =
    taken_fixed _ _ _ _ _ _ _ c.requires.begins 0 (mapped_zero _ _ _ (ne_eqb _ _ c.if-i-eq0.false) c.in-0.is) (c.added_by-in-0.ensures ∙ ap (added _) c.timed.ensures)

pub returns-in-1 : goal.returns-in-1
returns-in-1 c =
    taken_open _ _ _ _ _ _ _ c.requires.begins (mapped_open _ _ _ c.in-1.is) (c.added_by-in-1.ensures ∙ ap (added _) c.untimed-in-1.ensures)

-- Map 2, and map 5.
pub returns-in-2 : goal.returns-in-2
returns-in-2 c =
    reads_same (operation_mapped (eqb c.args.i 0) c.args.m) fixed _ _ _ c.args.i c.args.leasts.now c.args.leasts.now c.fixed_step.result (mapped_fixed _ _ _ (ne_eqb _ _ c.if-i-eq0.false) c.in-2.is) (c.fixed_step.ensures c.args.leasts.now)

pub returns-in-5 : goal.returns-in-5
returns-in-5 c =
    reads_same (operation_mapped (eqb c.args.i 0) c.args.m) slow _ _ _ c.args.i c.args.leasts.now c.slow_step.new.leasts c.slow_step.result (mapped_slow _ _ _ (ne_eqb _ _ c.if-i-eq0.false) c.in-5.is) c.slow_step.ensures

-- Any other map.
pub returns-in_default : goal.returns-in_default
returns-in_default c = mapped_refused _ _ _ (map_above _ _ (omega arith) (λ e. omega (arith, e)))
