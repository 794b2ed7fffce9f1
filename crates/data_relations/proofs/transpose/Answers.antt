use native.Mathlib.Omega.{arith}
use mathlib.Core.Path.{◌≡◌}
use Rattle.data_relations.proofs.Transposing.{turned_none, turned_more}
use Rattle.data_relations.proofs.transpose.Goals as goal

pub loop-i-init : goal.loop-i-init
loop-i-init c = rw c.requires.1 (turned_none _)

pub spread-requires : goal.spread-requires
spread-requires c = (omega arith, c.loop-i.invariant.long)

pub loop-i-preserved : goal.loop-i-preserved
loop-i-preserved c = turned_more _ _ _ _ c.loop-i.invariant c.spread.ensures

pub returns : goal.returns
returns c =
    let e : c.loop-i.i ≡ c.args.n = omega arith in
    rw e at c.loop-i.invariant.bits
