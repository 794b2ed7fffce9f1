-- Turns are counted, and none changes a row that the turn before it left.
use Rattle.std.proofs.Common.{◌≡◌, arith}
use Rattle.std.proofs.lemmas.Bool.Decides.{Decides-eqb}
use Rattle.std.proofs.lemmas.Slice.Eq.{slice_eq-Decides}
use Rattle.plan_starts.proofs.Laws.{row_after_none, row_after_more, row_after_stop}
use Rattle.plan_starts.proofs.turns.Goals as goal

pub loop-k-init : goal.loop-k-init
loop-k-init c = row_after_none _ _ _ _ _

pub returns-then-eq : goal.returns-then-eq
returns-then-eq c =
    row_after_stop _ _ _ _ _ _ _ _ (omega arith) c.loop-k.invariant c.turn-next.ensures ((slice_eq-Decides Decides-eqb _ _ _ c.eq.ensures).0 c.if-eq.true)

pub loop-k-preserved : goal.loop-k-preserved
loop-k-preserved c = row_after_more _ _ _ _ _ _ _ _ c.loop-k.invariant c.turn-next.ensures

pub returns : goal.returns
returns c =
    let e : c.loop-k.k ≡ c.args.n = omega arith in
    rw e at c.loop-k.invariant
