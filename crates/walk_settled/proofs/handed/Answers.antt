-- Two cells of the source's column are compared.
use borrow.Author.Rules.{rules}
use Rattle.walk_cells.proofs.Tables.{read_says}
use Rattle.walk_settled.proofs.handed.Goals as goal

pub returns : goal.returns
returns c =
    let p = c.requires in
    let start = read_says c.args.d.now p.square {k = 0} p.start (search rules) (search rules) in
    let end = read_says c.args.d.now p.square {k = 0} p.end (search rules) (search rules) in
    rw (start, end) at c.has_handed.ensures
