-- A heading, from the front.
use native.Mathlib.Omega.{arith}
use Rattle.definitions.specs.Output.{word_refused}
use Rattle.print_line.specs.Texts.{refusal_text}
use Rattle.print_line.proofs.Fronts.{heading_limit, put_printed}
use Rattle.print_line.proofs.print_refusal.Goals as goal

pub put_heading-requires : goal.put_heading-requires
put_heading-requires c = omega (arith, heading_limit word_refused c.args.number)

pub returns : goal.returns
unfolding refusal_text
returns c = put_printed c.put_heading.ensures
