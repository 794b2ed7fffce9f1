-- N and R, the steps, the link records.
use native.Mathlib.Omega.{arith}
use Rattle.definitions.specs.Writer.{two_bytes_of}
use Rattle.data_buffers.proofs.Writing.{put_as, put_then, put_room}
use Rattle.write_fields.proofs.Records.{two_bytes_size}
use Rattle.write_bytes.specs.Sheets.{steps_text, links_text}
use Rattle.write_bytes.proofs.Texts.{sheet_parts, sheet_rooms}
use Rattle.write_bytes.proofs.put_sheet.Goals as goal

pub put_byte-a-requires : goal.put_byte-a-requires
put_byte-a-requires c = omega (arith, (sheet_rooms _ _ _ _ _ _ c.requires.room).count)

pub put_number-b-requires : goal.put_number-b-requires
put_number-b-requires c =
    let rooms = sheet_rooms _ _ _ _ _ _ c.requires.room in
    omega (arith, put_room c.put_byte-a.ensures (two_bytes_of c.args.r) rooms.head, two_bytes_size c.args.r)

pub put_steps-c-requires : goal.put_steps-c-requires
put_steps-c-requires c =
    let rooms = sheet_rooms _ _ _ _ _ _ c.requires.room in
    let to_head = put_then c.put_byte-a.ensures c.put_number-b.ensures (omega arith) in
    record { few = c.requires.few_steps; room = put_room to_head (steps_text c.args.steps c.args.n) rooms.steps_room }

pub put_links-requires : goal.put_links-requires
put_links-requires c =
    let rooms = sheet_rooms _ _ _ _ _ _ c.requires.room in
    let to_steps = put_then (put_then c.put_byte-a.ensures c.put_number-b.ensures (omega arith)) c.put_steps-c.ensures (omega arith) in
    record { few = c.requires.few_links; ordered = c.requires.ordered; room = put_room to_steps (links_text c.args.links c.args.order.now c.args.r) rooms.whole }

pub returns : goal.returns
returns c =
    let to_steps = put_then (put_then c.put_byte-a.ensures c.put_number-b.ensures (omega arith)) c.put_steps-c.ensures (omega arith) in
    put_as (sheet_parts _ _ _ _ _) (put_then to_steps c.put_links.ensures (omega arith))
