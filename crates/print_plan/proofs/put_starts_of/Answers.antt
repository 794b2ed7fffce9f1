use mathlib.Core.Path.{◌≡◌, ap}
use native.Mathlib.Omega.{arith}
use Rattle.data_buffers.specs.Texts.{texts}
use Rattle.print_plan.specs.Texts.{start_cell}
use Rattle.data_buffers.proofs.Writing.{put_as, put_none, texts_length, next_room, next_text}
use Rattle.print_plan.proofs.put_starts_of.Goals as goal

pub loop-a-init : goal.loop-a-init
loop-a-init c = unfold texts in put_none _ _

pub put_start_at-p-requires : goal.put_start_at-p-requires
put_start_at-p-requires c =
    record { few = omega arith; step = omega arith; decider = omega arith; long = omega arith; room = next_room (start_cell c.args.n c.args.table.now c.args.v) c.args.n c.loop-a.a c.loop-a.invariant (omega arith) (omega arith) }

pub loop-a-preserved : goal.loop-a-preserved
loop-a-preserved c =
    next_text (start_cell c.args.n c.args.table.now c.args.v) c.args.n c.loop-a.a c.loop-a.invariant (omega arith) (omega arith) c.put_start_at-p.ensures

pub shape_of-out : goal.shape_of-out
shape_of-out c =
    texts_length (start_cell c.args.n c.args.table.now c.args.v) c.args.n c.loop-a.a c.loop-a.invariant (omega arith) (omega arith)

pub returns : goal.returns
returns c =
    let e : c.loop-a.a ≡ c.args.n = omega arith in
    put_as (ap (texts (start_cell c.args.n c.args.table.now c.args.v)) e) c.loop-a.invariant
