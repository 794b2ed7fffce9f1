-- `read_fields::read_number` meets its contract: fewer than two bytes there is refusal 1; else the number that they are.
use mathlib.Core.Path.{sym}
use native.Mathlib.Omega.{arith}
use Rattle.read_fields.proofs.Parts.{number_none, number_there}
use Rattle.read_fields.proofs.read_number.Goals as goal

pub returns-then-s-end : goal.returns-then-s-end
returns-then-s-end c = record { same = sym (number_none _ _ c.if-s-end.true); inside = omega arith }

pub returns : goal.returns
returns c =
    let a = c.args in
    record { same = rw c.number_at.ensures (sym (number_there a.s.now a.at (omega arith))); inside = omega arith }
