-- By the bit: the line, or nothing.
use mathlib.Core.Path.{ap, sym, ◌∙◌}
use native.Mathlib.Omega.{arith}
use lib.ListN.{length}
use Rattle.print_plan.proofs.Cells.{wait_stands, wait_absent}
use Rattle.data_buffers.proofs.Writing.{put_as, put_none}
use Rattle.print_plan.proofs.put_wait_at.Goals as goal

pub put_line-requires : goal.put_line-requires
put_line-requires c =
    omega (arith, ap length (wait_stands c.args.maps.now c.args.a c.args.i (sym c.if-has.true ∙ c.has.ensures)))

pub returns-then-has : goal.returns-then-has
returns-then-has c =
    put_as (wait_stands c.args.maps.now c.args.a c.args.i (sym c.if-has.true ∙ c.has.ensures)) c.put_line.ensures

pub returns : goal.returns
returns c =
    put_as (wait_absent c.args.maps.now c.args.a c.args.i (sym c.if-has.false ∙ c.has.ensures)) (put_none _ _)
