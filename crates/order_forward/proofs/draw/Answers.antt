use Rattle.std.proofs.Common.{rules, arith, ◌≡◌, ◌<◌, get_or}
use Rattle.order_forward.proofs.Drawing.{drawing_end, drawing_more, drawing_start}
use Rattle.order_forward.proofs.draw.Goals as goal

pub loop-k-init : goal.loop-k-init
loop-k-init c = (c.requires.ordered, drawing_start c.requires.ordered _ c.requires.long)

pub loop-k-preserved : goal.loop-k-preserved
loop-k-preserved c =
    let O = c.loop-k.invariant.0 in
    let u = c.place-u in
    let inside : c.loop-k.k < c.args.n = search rules in
    let at : u.result ≡ get_or c.args.order.now c.loop-k.k 0 = omega (arith, u.ensures.0, O.filled c.loop-k.k inside, c.requires.few) in
    (O, drawing_more O _ c.requires.few c.loop-k.k c.loop-k.rows c.loop-k.invariant.1 inside u.result c.gather.result at c.gather.ensures)

pub returns : goal.returns
returns c = let i = c.loop-k.invariant in drawing_end i.0 _ _ _ (search rules) i.1
