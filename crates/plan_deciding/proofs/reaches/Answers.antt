-- `plan_deciding::reaches` meets its contract: three cells are compared, two in the column of a and one in that of b.
use Rattle.plan_deciding.specs.Working.{reaching}
use Rattle.walk_cells.proofs.Tables.{read_by_says}
use Rattle.plan_deciding.proofs.reaches.Goals as goal

pub returns : goal.returns
unfolding reaching
returns c p q r =
    let ways = c.requires.1 in
    -- The columns of a and of b.
    let k = c.place-k in
    let j = c.place-j in
    -- The cells of b for a, of v for b, and of v for a.
    let over = read_by_says c.args.t.cells.now ways.over.square ways.over.inside k.ensures.1 c.args.t.number.now c.requires.0 k.ensures.0 c.sum_reaches-arg-1.given in
    let last = read_by_says c.args.t.cells.now ways.own.square ways.own.inside j.ensures.1 c.args.t.number.now ways.over.below j.ensures.0 c.sum_reaches-arg-2-1.given in
    let own = read_by_says c.args.t.cells.now ways.own.square ways.own.inside k.ensures.1 c.args.t.number.now c.requires.0 k.ensures.0 c.sum_reaches-arg-3-1.given in
    let told = rw (over, last, own) at c.sum_reaches.ensures in
    told q r p
