-- A number a turn, each behind those before it.
use Rattle.std.proofs.Common.{◌≡◌, arith, replicate}
use borrow.Author.Rules.{rules}
use lib.ListN.{length-set}
use Rattle.laws.proofs.Fronts.{laid_none, laid_more}
use Rattle.plan_starts.specs.Times.{next_row}
use Rattle.plan_starts.proofs.turn.Goals as goal

pub loop-v-init : goal.loop-v-init
loop-v-init c = (search rules, laid_none _ _)

pub loop-v-preserved : goal.loop-v-preserved
loop-v-preserved c =
    (simp length-set c.loop-v.invariant.0, laid_more _ c.loop-v.v (replicate 64 0) c.loop-v.row c.start_of.result 0 (omega arith) c.loop-v.invariant.1 c.start_of.ensures)

pub returns : goal.returns
unfolding next_row
returns c =
    let e : c.loop-v.v ≡ c.args.n = omega arith in
    rw e at c.loop-v.invariant.1
