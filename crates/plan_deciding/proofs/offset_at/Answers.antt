-- The weight of the cell in the anchor's column, without the least.
use Rattle.walk_cells.proofs.Tables.{read_by_says}
use Rattle.plan_deciding.proofs.offset_at.Goals as goal

pub returns : goal.returns
returns c =
    let k = c.place-k in
    rw (read_by_says c.args.t.cells.now c.requires.0.square c.requires.0.inside k.ensures.1 c.args.t.number.now c.requires.1 k.ensures.0 c.weight_past-arg-1.given) at c.weight_past.ensures
