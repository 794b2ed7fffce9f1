-- The word, the numbers, the end of the line.
use native.Mathlib.Omega.{arith}
use Rattle.definitions.specs.Output.{newline}
use Rattle.print_line.specs.Texts.{fields}
use Rattle.print_line.proofs.Parts.{line_parts, line_all_room, line_fields_room, line_word_room}
use Rattle.data_buffers.proofs.Writing.{put_as, put_then, put_room}
use Rattle.print_line.proofs.put_line.Goals as goal

pub put_word-p-requires : goal.put_word-p-requires
put_word-p-requires c =
    line_word_room c.args.word.now c.args.numbers.now c.args.at _ c.requires

pub put_fields-q-requires : goal.put_fields-q-requires
put_fields-q-requires c =
    put_room c.put_word-p.ensures (fields c.args.numbers.now) (line_fields_room c.args.word.now c.args.numbers.now c.args.at _ c.requires)

pub put_newline-requires : goal.put_newline-requires
put_newline-requires c =
    let text = put_then c.put_word-p.ensures c.put_fields-q.ensures (omega arith) in
    let room = put_room text newline (line_all_room c.args.word.now c.args.numbers.now c.args.at _ c.requires) in
    omega arith

pub returns : goal.returns
returns c =
    let text = put_then c.put_word-p.ensures c.put_fields-q.ensures (omega arith) in
    put_as (line_parts c.args.word.now c.args.numbers.now) (put_then text c.put_newline.ensures (omega arith))
