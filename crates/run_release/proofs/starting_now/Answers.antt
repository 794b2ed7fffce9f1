use Rattle.std.proofs.Common.{sym, ◌∙◌, arith}
use Rattle.laws.proofs.Maps.{one_shl}
use Rattle.run_release.proofs.SweepLaws.{swept_none, swept_start, swept_over, swept_fits, swept_all}
use Rattle.run_release.proofs.starting_now.Goals as goal
use Rattle.run_release.proofs.starting_now.Goals.{then-is_ready, else-is_ready}

pub loop-v-init : goal.loop-v-init
loop-v-init c = swept_none

pub overflow_add-map : goal.overflow_add-map
overflow_add-map c = record { fits = swept_fits c.loop-v.invariant c.loop-v-test.true c.requires.few (one_shl _ (omega arith)) }

pub loop-v-preserved : goal.loop-v-preserved
loop-v-preserved c =
    elim c.if-is_ready.branch [
      | then-is_ready w ↦ rw (w.start-is, w.map-is) (swept_start c.loop-v.invariant (sym c.is_ready.ensures ∙ w.if-is_ready.true) (one_shl _ (omega arith)))
      | else-is_ready w ↦ rw (w.start-is, w.map-is) (swept_over c.loop-v.invariant (sym c.is_ready.ensures ∙ w.if-is_ready.false))
    ]

pub returns : goal.returns
returns c = swept_all c.loop-v.invariant c.loop-v.auto.v-end c.loop-v-test.false
