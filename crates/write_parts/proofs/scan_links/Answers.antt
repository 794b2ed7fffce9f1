use Prim.Native.Nat.{◌<◌}
use native.Mathlib.Omega.{arith}
use lib.ListN.{length-take}
use lib.Seq.{get_or-take}
use Rattle.write_parts.proofs.Seeing.{links_none, links_more}
use Rattle.write_parts.proofs.scan_links.Goals as goal

pub loop-i-init : goal.loop-i-init
loop-i-init c = links_none _ _

pub loop-i-preserved : goal.loop-i-preserved
loop-i-preserved c =
    let b : c.loop-i.i < c.args.r = omega (arith, length-take c.args.r c.args.links) in
    links_more c.args.links _ c.args.n c.loop-i.i (omega (arith, length-take c.args.r c.args.links)) c.loop-i.invariant (rw get_or-take at c.see_link-seen.ensures) c.cell.result (rw get_or-take at c.cell.ensures) (omega (arith, c.requires.room))
