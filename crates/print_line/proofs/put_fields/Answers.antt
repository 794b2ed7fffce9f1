use mathlib.Core.Path.{◌≡◌, ap}
use native.Mathlib.Omega.{arith}
use lib.ListN.{length}
use Rattle.data_buffers.specs.Texts.{texts}
use Rattle.print_line.specs.Texts.{field_at}
use Rattle.data_buffers.proofs.Writing.{put_as, put_none, texts_length, next_room, next_text}
use Rattle.print_line.proofs.put_fields.Goals as goal

pub loop-x-init : goal.loop-x-init
loop-x-init c = unfold texts in put_none _ _

pub put_field-p-requires : goal.put_field-p-requires
put_field-p-requires c =
    let numbers = c.args.numbers.now in
    next_room (field_at numbers) (length numbers) c.loop-x.x-index c.loop-x.invariant (omega arith) c.requires

pub loop-x-preserved : goal.loop-x-preserved
loop-x-preserved c =
    let numbers = c.args.numbers.now in
    next_text (field_at numbers) (length numbers) c.loop-x.x-index c.loop-x.invariant (omega arith) c.requires c.put_field-p.ensures

pub shape_of-out : goal.shape_of-out
shape_of-out c =
    let numbers = c.args.numbers.now in
    texts_length (field_at numbers) (length numbers) c.loop-x.x-index c.loop-x.invariant (omega arith) c.requires

pub returns : goal.returns
returns c =
    let numbers = c.args.numbers.now in
    let e : c.loop-x.x-index ≡ length numbers = omega arith in
    put_as (ap (texts (field_at numbers)) e) c.loop-x.invariant
