use mathlib.Core.Path.{◌≡◌, ap}
use native.Mathlib.Omega.{arith}
use Rattle.data_buffers.specs.Texts.{texts}
use Rattle.print_plan.specs.Texts.{wait_cell}
use Rattle.data_buffers.proofs.Writing.{put_as, put_none, texts_length, next_room, next_text}
use Rattle.print_plan.proofs.put_waits_of.Goals as goal

pub loop-i-init : goal.loop-i-init
loop-i-init c = unfold texts in put_none _ _

pub put_wait_at-p-requires : goal.put_wait_at-p-requires
put_wait_at-p-requires c =
    record { anchor = omega arith; target = omega arith; room = next_room (wait_cell c.args.maps.now c.args.a) c.args.n c.loop-i.i c.loop-i.invariant (omega arith) (omega arith) }

pub loop-i-preserved : goal.loop-i-preserved
loop-i-preserved c =
    next_text (wait_cell c.args.maps.now c.args.a) c.args.n c.loop-i.i c.loop-i.invariant (omega arith) (omega arith) c.put_wait_at-p.ensures

pub shape_of-out : goal.shape_of-out
shape_of-out c =
    texts_length (wait_cell c.args.maps.now c.args.a) c.args.n c.loop-i.i c.loop-i.invariant (omega arith) (omega arith)

pub returns : goal.returns
returns c =
    let e : c.loop-i.i ≡ c.args.n = omega arith in
    put_as (ap (texts (wait_cell c.args.maps.now c.args.a)) e) c.loop-i.invariant
