-- A space, then the digits.
use mathlib.Core.Path.{ap, sym}
use native.Mathlib.Omega.{arith}
use lib.ListN.{length}
use Rattle.definitions.specs.Output.{decimal}
use Rattle.print_line.proofs.Digits.{field_parts}
use Rattle.data_buffers.proofs.Writing.{put_as, put_then, put_room}
use Rattle.print_line.proofs.put_field.Goals as goal

pub put_byte-p-requires : goal.put_byte-p-requires
put_byte-p-requires c = omega (arith, ap length (field_parts c.args.x))

pub put_number-requires : goal.put_number-requires
put_number-requires c =
    let x = c.args.x in
    put_room c.put_byte-p.ensures (decimal x) (omega (arith, ap length (field_parts x)))

pub returns : goal.returns
returns c = put_as (sym (field_parts c.args.x)) (put_then c.put_byte-p.ensures c.put_number.ensures (omega arith))
