-- By the bit: the line, or nothing.
use mathlib.Core.Path.{ap, sym, ◌∙◌}
use native.Mathlib.Omega.{arith}
use lib.ListN.{length}
use Rattle.print_price.proofs.Lines.{registers_stand, registers_absent}
use Rattle.data_buffers.proofs.Writing.{put_as, put_none}
use Rattle.print_price.proofs.put_registers_at.Goals as goal

pub put_line-requires : goal.put_line-requires
put_line-requires c =
    omega (arith, ap length (registers_stand c.args.unbounded c.args.registers.now c.args.a (sym c.if-has.true ∙ c.has.ensures)))

pub returns-then-has : goal.returns-then-has
returns-then-has c =
    put_as (registers_stand c.args.unbounded c.args.registers.now c.args.a (sym c.if-has.true ∙ c.has.ensures)) c.put_line.ensures

pub returns : goal.returns
returns c =
    put_as (registers_absent c.args.unbounded c.args.registers.now c.args.a (sym c.if-has.false ∙ c.has.ensures)) (put_none _ _)
