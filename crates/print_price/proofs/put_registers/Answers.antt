use mathlib.Core.Path.{◌≡◌, ap}
use native.Mathlib.Omega.{arith}
use Rattle.data_buffers.specs.Texts.{texts}
use Rattle.data_buffers.proofs.Writing.{put_as, put_none, texts_length, next_room, next_text}
use Rattle.print_price.specs.Texts.{registers_cell}
use Rattle.print_price.proofs.put_registers.Goals as goal

pub loop-a-init : goal.loop-a-init
loop-a-init c = unfold texts in put_none _ _

pub put_registers_at-p-requires : goal.put_registers_at-p-requires
put_registers_at-p-requires c =
    record { step = omega arith; room = next_room (registers_cell c.args.unbounded c.args.registers.now) c.args.n c.loop-a.a c.loop-a.invariant (omega arith) (omega arith) }

pub loop-a-preserved : goal.loop-a-preserved
loop-a-preserved c =
    next_text (registers_cell c.args.unbounded c.args.registers.now) c.args.n c.loop-a.a c.loop-a.invariant (omega arith) (omega arith) c.put_registers_at-p.ensures

pub shape_of-out : goal.shape_of-out
shape_of-out c =
    texts_length (registers_cell c.args.unbounded c.args.registers.now) c.args.n c.loop-a.a c.loop-a.invariant (omega arith) (omega arith)

pub returns : goal.returns
returns c =
    let e : c.loop-a.a ≡ c.args.n = omega arith in
    put_as (ap (texts (registers_cell c.args.unbounded c.args.registers.now)) e) c.loop-a.invariant
