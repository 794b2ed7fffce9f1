use mathlib.Core.Path.{◌≡◌, ap}
use native.Mathlib.Omega.{arith}
use Rattle.data_buffers.specs.Texts.{texts}
use Rattle.data_buffers.proofs.Writing.{put_as, put_none, texts_length, next_room, next_text}
use Rattle.print_price.specs.Texts.{comparisons_line}
use Rattle.print_price.proofs.put_comparisons.Goals as goal

pub loop-v-init : goal.loop-v-init
loop-v-init c = unfold texts in put_none _ _

pub put_comparisons_at-p-requires : goal.put_comparisons_at-p-requires
put_comparisons_at-p-requires c =
    record { step = omega arith; room = next_room (comparisons_line c.args.comparisons.now) c.args.n c.loop-v.v c.loop-v.invariant (omega arith) (omega arith) }

pub loop-v-preserved : goal.loop-v-preserved
loop-v-preserved c =
    next_text (comparisons_line c.args.comparisons.now) c.args.n c.loop-v.v c.loop-v.invariant (omega arith) (omega arith) c.put_comparisons_at-p.ensures

pub shape_of-out : goal.shape_of-out
shape_of-out c =
    texts_length (comparisons_line c.args.comparisons.now) c.args.n c.loop-v.v c.loop-v.invariant (omega arith) (omega arith)

pub returns : goal.returns
returns c =
    let e : c.loop-v.v ≡ c.args.n = omega arith in
    put_as (ap (texts (comparisons_line c.args.comparisons.now)) e) c.loop-v.invariant
