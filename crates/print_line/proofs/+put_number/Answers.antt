-- A number below ten is its digit; another is the digits of its tenth part and its last digit.
use Rattle.std.proofs.Common.{ap, sym, arith, [], ◌∷◌, ◌+◌, ◌/◌, ◌%◌, length}
use Rattle.std.proofs.lemmas.List.{length-append}
use Rattle.definitions.specs.Output.{decimal}
use Rattle.print_line.proofs.Digits.{decimal_digit, decimal_tenth}
use Rattle.data_buffers.proofs.Writing.{put_as, put_then, put_room}
use Rattle.print_line.proofs.+put_number.Goals as goal

pub put_digit-requires : goal.put_digit-requires
put_digit-requires t c = (omega arith, omega (arith, ap length (decimal_digit c.args.x (omega arith))))

pub returns-then-x-lt10 : goal.returns-then-x-lt10
returns-then-x-lt10 t c = put_as (sym (decimal_digit c.args.x (omega arith))) c.put_digit.ensures

pub put_number-p-requires : goal.put_number-p-requires
put_number-p-requires t c =
    let x = c.args.x in
    (omega arith, omega (arith, ap length (decimal_tenth x (omega arith) (omega arith)), length-append (decimal (x / 10)) ((48 + x % 10) ∷ [])))

pub put_digit-requires-2 : goal.put_digit-requires-2
put_digit-requires-2 t c =
    let x = c.args.x in
    let room = put_room c.put_number-p.ensures ((48 + x % 10) ∷ []) (omega (arith, ap length (decimal_tenth x (omega arith) (omega arith)))) in
    (omega arith, omega arith)

pub returns : goal.returns
returns t c =
    let e = decimal_tenth c.args.x (omega arith) (omega arith) in
    put_as (sym e) (put_then c.put_number-p.ensures c.put_digit-2.ensures (omega (arith, ap length e)))
