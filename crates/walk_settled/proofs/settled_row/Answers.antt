-- One member a turn.
use mathlib.Core.Path.{sym, ◌∙◌}
use mathlib.Core.Bool.{Bool}
use mathlib.Core.List.{List}
use Prim.Native.Nat.{ℕ}
use Rattle.definitions.specs.Waits.{wait_edge}
use Rattle.data_edges.specs.Serial.{leasts_in}
use Rattle.walk_cells.specs.Tables.{said}
use Rattle.walk_settled.specs.Settled.{handed_on}
use Rattle.walk_settled.proofs.Handing.{members_fail, members_less, members_none}
use Rattle.walk_settled.proofs.settled_row.Goals as goal

-- The wait of i for a has handed on.
abbrev waited : List (List ℕ) → List ℕ → ℕ → ℕ → Bool
waited d leasts i a = handed_on d (wait_edge (leasts_in leasts) (record { anchor = a; target = i }))

pub returns-then-not-handed_wait : goal.returns-then-not-handed_wait
returns-then-not-handed_wait c =
    let low = c.in-Some.ensures.steps.0 in
    sym (c.loop-a.invariant ∙ members_fail (waited (said c.args.d.now) c.args.leasts.now c.args.i) c.loop-a.a-iterator.left c.in-Some.a low.below low.member (sym c.handed_wait.ensures ∙ c.if-not-handed_wait.true))

pub loop-a-preserved : goal.loop-a-preserved
loop-a-preserved c =
    c.loop-a.invariant
    ∙ members_less (waited (said c.args.d.now) c.args.leasts.now c.args.i) c.loop-a.a-iterator.left c.next.new.self.left c.in-Some.a
    (sym c.handed_wait.ensures ∙ c.if-not-handed_wait.false) c.in-Some.ensures.steps.1

pub returns : goal.returns
returns c = sym (c.loop-a.invariant ∙ members_none (waited (said c.args.d.now) c.args.leasts.now c.args.i) c.loop-a.a-iterator.left c.in-None.ensures.steps.0)
