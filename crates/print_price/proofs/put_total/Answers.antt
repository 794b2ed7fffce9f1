-- The line of the word and the two numbers.
use mathlib.Core.Path.{ap}
use native.Mathlib.Omega.{arith}
use lib.ListN.{length}
use Rattle.data_buffers.proofs.Writing.{put_as}
use Rattle.print_price.proofs.Lines.{total_as_line}
use Rattle.print_price.proofs.put_total.Goals as goal

pub put_line-requires : goal.put_line-requires
put_line-requires c =
    omega (arith, ap length (total_as_line c.args.registers c.args.comparisons))

pub returns : goal.returns
returns c =
    put_as (total_as_line c.args.registers c.args.comparisons) c.put_line.ensures
