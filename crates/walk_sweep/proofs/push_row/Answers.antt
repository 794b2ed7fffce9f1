use mathlib.Core.Path.{◌∙◌}
use native.Mathlib.Omega.{arith}
use Rattle.data_lists.proofs.Following.{following_end, following_given, following_start}
use Rattle.walk_cells.proofs.Tables.{square_own}
use Rattle.walk_sweep.proofs.Handing.{listed_as, listed_more, listed_none}
use Rattle.walk_sweep.proofs.push_row.Goals as goal

pub loop-k-init : goal.loop-k-init
loop-k-init c =
    let h = c.out_of-k-items.ensures in
    rw c.into_iter-k-iterator.ensures.into_iter_gives (h.0, following_start h.1 (listed_none c.requires.linked.square))

pub push_word-left-requires : goal.push_word-left-requires
push_word-left-requires c =
    let p = c.requires in
    let S = c.loop-k.invariant.1.been.square in
    let out = rw c.loop-k.invariant.0 at c.in-Some.ensures.steps.0 in
    record {
      target = record { row = omega (arith, p.linked.ends c.in-Some.k out.inside, S.rows); few = p.few; square = square_own S };
      ready = p.ready;
      light = c.args.es.listed.light c.in-Some.k out.inside;
    }

pub loop-k-preserved : goal.loop-k-preserved
loop-k-preserved c =
    let own = c.loop-k.invariant.0 in
    let step = c.in-Some.ensures.steps in
    (step.1 ∙ own, following_given (rw own at step.0) (listed_more c.push_word-left.ensures) c.loop-k.invariant.1)

pub shape_of-d : goal.shape_of-d
shape_of-d c = c.loop-k.invariant.1.been.square.rows

pub returns : goal.returns
returns c = following_end c.in-None.ensures.steps.0 listed_as c.loop-k.invariant.1
