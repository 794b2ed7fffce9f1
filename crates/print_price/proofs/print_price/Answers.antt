-- The registers, the comparisons and the sums, from the front; the room is enough for all of them.
use native.Mathlib.Omega.{arith}
use Rattle.data_buffers.proofs.Writing.{put_as, put_then, put_room}
use Rattle.print_line.proofs.Fronts.{put_printed}
use Rattle.print_price.specs.Texts.{comparisons_part, total_line}
use Rattle.print_price.proofs.Lines.{price_listed}
use Rattle.print_price.proofs.Limits.{registers_limit, comparisons_room, total_room}
use Rattle.print_price.proofs.print_price.Goals as goal

pub put_registers-p-requires : goal.put_registers-p-requires
put_registers-p-requires c =
    let a = c.args in
    record { few = omega arith; room = omega (arith, registers_limit a.n (omega arith) a.unbounded a.registers.now) }

pub put_comparisons-q-requires : goal.put_comparisons-q-requires
put_comparisons-q-requires c =
    let a = c.args in
    let room = put_room c.put_registers-p.ensures (comparisons_part a.n a.comparisons.now) (omega (arith, comparisons_room a.n (omega arith) a.unbounded a.registers.now a.comparisons.now)) in
    record { few = omega arith; room = room }

pub put_total-requires : goal.put_total-requires
put_total-requires c =
    let a = c.args in
    let lines = put_then c.put_registers-p.ensures c.put_comparisons-q.ensures (omega arith) in
    put_room lines (total_line a.register_total a.comparison_total) (omega (arith, total_room a.n (omega arith) a.unbounded a.registers.now a.comparisons.now a.register_total a.comparison_total))

pub returns : goal.returns
returns c =
    let a = c.args in
    let lines = put_then c.put_registers-p.ensures c.put_comparisons-q.ensures (omega arith) in
    let text = put_then lines c.put_total.ensures (omega arith) in
    put_printed (put_as (price_listed a.unbounded a.n a.registers.now a.comparisons.now a.register_total a.comparison_total) text)
