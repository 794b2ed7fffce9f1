use borrow.Author.Rules.{rules}
use Rattle.write_parts.specs.Parts.{cell_of}
use Rattle.write_parts.proofs.cell.Goals as goal

pub returns : goal.returns
unfolding cell_of
returns c = search rules
