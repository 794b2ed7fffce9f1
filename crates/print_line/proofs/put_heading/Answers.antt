-- The line of the word and the one number.
use mathlib.Core.Path.{ap}
use native.Mathlib.Omega.{arith}
use lib.ListN.{length}
use Rattle.data_buffers.proofs.Writing.{put_as}
use Rattle.print_line.proofs.Fronts.{heading_as_line}
use Rattle.print_line.proofs.put_heading.Goals as goal

pub put_line-requires : goal.put_line-requires
put_line-requires c =
    omega (arith, ap length (heading_as_line c.args.word.now c.args.x))

pub returns : goal.returns
returns c =
    put_as (heading_as_line c.args.word.now c.args.x) c.put_line.ensures
