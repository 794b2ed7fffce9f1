-- The two headings, the waits and the starts, from the front; the room is enough for all of them.
use native.Mathlib.Omega.{arith}
use Rattle.definitions.specs.Output.{word_verdict, word_waits}
use Rattle.data_buffers.proofs.Writing.{put_then, put_room}
use Rattle.print_line.specs.Texts.{heading}
use Rattle.print_line.proofs.Fronts.{heading_limit, put_printed}
use Rattle.print_plan.specs.Texts.{maps_text, table_text, plan_text}
use Rattle.print_plan.proofs.Limits.{headings_room, waits_room, starts_room}
use Rattle.print_plan.proofs.print_plan.Goals as goal

pub put_heading-p-requires : goal.put_heading-p-requires
put_heading-p-requires c = omega (arith, heading_limit word_verdict c.args.verdict)

pub put_heading-q-requires : goal.put_heading-q-requires
put_heading-q-requires c =
    let a = c.args in
    put_room c.put_heading-p.ensures (heading word_waits a.count) (omega (arith, headings_room a.n (omega arith) a.verdict a.count a.maps.now a.table.now))

pub put_waits-s-requires : goal.put_waits-s-requires
put_waits-s-requires c =
    let a = c.args in
    let heads = put_then c.put_heading-p.ensures c.put_heading-q.ensures (omega arith) in
    (omega arith, put_room heads (maps_text a.n a.maps.now) (omega (arith, waits_room a.n (omega arith) a.verdict a.count a.maps.now a.table.now)))

pub put_starts-requires : goal.put_starts-requires
put_starts-requires c =
    let a = c.args in
    let heads = put_then c.put_heading-p.ensures c.put_heading-q.ensures (omega arith) in
    let waits = put_then heads c.put_waits-s.ensures (omega arith) in
    let room = put_room waits (table_text a.n a.table.now) (omega (arith, starts_room a.n (omega arith) a.verdict a.count a.maps.now a.table.now)) in
    record { few = omega arith; long = omega arith; room = room }

pub returns : goal.returns
unfolding plan_text
returns c =
    let heads = put_then c.put_heading-p.ensures c.put_heading-q.ensures (omega arith) in
    let waits = put_then heads c.put_waits-s.ensures (omega arith) in
    put_printed (put_then waits c.put_starts.ensures (omega arith))
