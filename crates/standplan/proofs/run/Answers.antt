-- What is read decides what is printed of the whole input, and what stands before the end of the text is the text.
use Rattle.std.proofs.Common.{arith, rules}
use Rattle.definitions.specs.Output.{standplan}
use Rattle.demands.proofs.Demands.{front_decides}
use Rattle.print_line.proofs.Fronts.{printed_taken, printed_within}
use Rattle.standplan.proofs.run.Goals as goal

pub print_of-requires-clause-fits : goal.print_of-requires-clause-fits
print_of-requires-clause-fits g c = record { callable = λ s out long. search arith; within = λ s out left n long met. printed_within {t = standplan s.now} {old = out.now} (search rules) }

pub returns : goal.returns
returns g c = c.print_of.ensures standplan (λ s. (front_decides s 8192 (omega arith)).prints) (record { gives = λ s out left n long met. printed_taken {old = out.now} (search rules) })
