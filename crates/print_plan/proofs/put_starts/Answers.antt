use mathlib.Core.Path.{◌≡◌, ap}
use native.Mathlib.Omega.{arith}
use Rattle.data_buffers.specs.Texts.{texts}
use Rattle.print_plan.specs.Texts.{table_row}
use Rattle.data_buffers.proofs.Writing.{put_as, put_none, texts_length, next_room, next_text}
use Rattle.print_plan.proofs.put_starts.Goals as goal

pub loop-v-init : goal.loop-v-init
loop-v-init c = unfold texts in put_none _ _

pub put_starts_of-p-requires : goal.put_starts_of-p-requires
put_starts_of-p-requires c =
    record { few = omega arith; step = omega arith; long = omega arith; room = next_room (table_row c.args.n c.args.table.now) c.args.n c.loop-v.v c.loop-v.invariant (omega arith) (omega arith) }

pub loop-v-preserved : goal.loop-v-preserved
loop-v-preserved c =
    next_text (table_row c.args.n c.args.table.now) c.args.n c.loop-v.v c.loop-v.invariant (omega arith) (omega arith) c.put_starts_of-p.ensures

pub shape_of-out : goal.shape_of-out
shape_of-out c =
    texts_length (table_row c.args.n c.args.table.now) c.args.n c.loop-v.v c.loop-v.invariant (omega arith) (omega arith)

pub returns : goal.returns
returns c =
    let e : c.loop-v.v ≡ c.args.n = omega arith in
    put_as (ap (texts (table_row c.args.n c.args.table.now)) e) c.loop-v.invariant
