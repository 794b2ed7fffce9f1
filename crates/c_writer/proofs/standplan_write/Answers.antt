-- The parts that the numbers stand for are written; the length is stored, or the refusal told by its number.
use mathlib.Core.Path.{◌≡◌, sym, ap, ◌∙◌}
use Prim.Native.Nat.{ℕ}
use native.Mathlib.Omega.{arith}
use Rattle.definitions.specs.Basics.{Outcome}
use Rattle.definitions.specs.Numbers.{Tally, tally_of}
use Rattle.definitions.specs.Writer.{write_answer}
use Rattle.data_numbers.specs.Codes.{count_left, tally_code}
use Rattle.write_numbers.specs.Decoding.{records_in, steps_in}
use Rattle.write_numbers.proofs.Decoded.{records_length, steps_length}
use Rattle.write_numbers.proofs.Encoded.{numbers_fit}
use Rattle.c_writer.proofs.Cuts.{returned_all}
use Rattle.c_writer.proofs.standplan_write.Goals as goal
use Rattle.c_writer.proofs.standplan_write.Goals.{in-Ok, in_default}

pub returns : goal.returns
returns c =
    let steps = c.args.steps.now in
    let records = c.args.records.now in
    let lent = c.args.length.now in
    let answered =
    returned_all
    {a = c.min-a.result}
    {b = c.min-b.result}
    c.write_given-tally.ensures
    c.steps_from.ensures
    c.records_from.ensures
    (omega (arith, steps_length steps))
    (omega (arith, records_length records)) in
    let counted : c.match-tally.length ≡ count_left (write_answer c.args.n c.args.r (steps_in steps) (records_in records) c.args.buffer.now).verdict lent =
    elim c.match-tally.branch [ in-Ok w ↦ w.length-is ∙ ap (λ (o : Outcome ℕ). count_left o lent) (sym (ap tally_of w.in-Ok.is) ∙ answered.verdict) | in_default w ↦ w.length-is ∙ ap (λ (o : Outcome ℕ). count_left o lent) (sym (ap tally_of w.in_default.is) ∙ answered.verdict) ] in
    let told : ◌≡◌ {A = Tally} c.match-tally.tally c.write_given-tally.result =
    elim c.match-tally.branch [ in-Ok w ↦ w.tally-is ∙ sym w.in-Ok.is | in_default w ↦ w.tally-is ] in
    record {
      counted = record { verdict = c.tally_code.ensures ∙ ap (λ (t : Tally). tally_code (tally_of t)) told ∙ ap tally_code answered.verdict; numbers = answered.numbers; count = counted };
      numbers = numbers_fit c.args.n c.args.r steps records (λ i. omega (arith, c.type_inv.steps i)) (λ i. omega (arith, c.type_inv.records i));
    }
