-- The line of the word, the step and its number.
use mathlib.Core.Path.{ap}
use native.Mathlib.Omega.{arith}
use lib.ListN.{length}
use Rattle.data_buffers.proofs.Writing.{put_as}
use Rattle.print_price.proofs.Lines.{comparisons_as_line}
use Rattle.print_price.proofs.put_comparisons_at.Goals as goal

pub put_line-requires : goal.put_line-requires
put_line-requires c =
    omega (arith, ap length (comparisons_as_line c.args.comparisons.now c.args.v))

pub returns : goal.returns
returns c =
    put_as (comparisons_as_line c.args.comparisons.now c.args.v) c.put_line.ensures
