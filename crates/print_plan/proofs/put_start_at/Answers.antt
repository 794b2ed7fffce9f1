-- By the number: the line, or nothing.
use mathlib.Core.Path.{ap}
use native.Mathlib.Omega.{arith}
use lib.ListN.{length}
use Rattle.laws.proofs.Counts.{square_small}
use Rattle.print_plan.proofs.Cells.{start_stands, start_absent, cell_below}
use Rattle.data_buffers.proofs.Writing.{put_as, put_none}
use Rattle.print_plan.proofs.put_start_at.Goals as goal

pub overflow_mul-ticks : goal.overflow_mul-ticks
overflow_mul-ticks c = omega (arith, cell_below c.args.n c.args.v c.args.a (omega arith) (omega arith), square_small c.args.n (omega arith))

pub overflow_add-ticks : goal.overflow_add-ticks
overflow_add-ticks c = omega (arith, cell_below c.args.n c.args.v c.args.a (omega arith) (omega arith), square_small c.args.n (omega arith))

pub offset_bounds-table-v : goal.offset_bounds-table-v
offset_bounds-table-v c = omega (arith, cell_below c.args.n c.args.v c.args.a (omega arith) (omega arith), square_small c.args.n (omega arith))

pub bounds-table-v : goal.bounds-table-v
bounds-table-v c = omega (arith, cell_below c.args.n c.args.v c.args.a (omega arith) (omega arith))

pub returns-then-ticks : goal.returns-then-ticks
returns-then-ticks c =
    put_as (start_absent c.args.n c.args.table.now c.args.v c.args.a c.if-ticks.true) (put_none _ _)

pub put_line-requires : goal.put_line-requires
put_line-requires c =
    omega (arith, ap length (start_stands c.args.n c.args.table.now c.args.v c.args.a c.if-ticks.false))

pub returns : goal.returns
returns c =
    put_as (start_stands c.args.n c.args.table.now c.args.v c.args.a c.if-ticks.false) c.put_line.ensures
