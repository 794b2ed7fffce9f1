use mathlib.Core.Path.{◌≡◌, ap}
use native.Mathlib.Omega.{arith}
use Rattle.data_buffers.specs.Texts.{texts}
use Rattle.print_plan.specs.Texts.{maps_row}
use Rattle.data_buffers.proofs.Writing.{put_as, put_none, texts_length, next_room, next_text}
use Rattle.print_plan.proofs.put_waits.Goals as goal

pub loop-a-init : goal.loop-a-init
loop-a-init c = unfold texts in put_none _ _

pub put_waits_of-p-requires : goal.put_waits_of-p-requires
put_waits_of-p-requires c =
    record { few = omega arith; anchor = omega arith; room = next_room (maps_row c.args.n c.args.maps.now) c.args.n c.loop-a.a c.loop-a.invariant (omega arith) (omega arith) }

pub loop-a-preserved : goal.loop-a-preserved
loop-a-preserved c =
    next_text (maps_row c.args.n c.args.maps.now) c.args.n c.loop-a.a c.loop-a.invariant (omega arith) (omega arith) c.put_waits_of-p.ensures

pub shape_of-out : goal.shape_of-out
shape_of-out c =
    texts_length (maps_row c.args.n c.args.maps.now) c.args.n c.loop-a.a c.loop-a.invariant (omega arith) (omega arith)

pub returns : goal.returns
returns c =
    let e : c.loop-a.a ≡ c.args.n = omega arith in
    put_as (ap (texts (maps_row c.args.n c.args.maps.now)) e) c.loop-a.invariant
