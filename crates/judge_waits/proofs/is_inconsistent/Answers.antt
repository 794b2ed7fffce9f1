-- `judge_waits::is_inconsistent` meets its contract: a step that waits for its own end is a loop of the rows.
use mathlib.Core.Path.{◌∙◌}
use Rattle.judge_waits.proofs.Waiting.{loop_is_inconsistent}
use Rattle.judge_waits.proofs.is_inconsistent.Goals as goal

pub returns : goal.returns
returns c = record { bits = c.has_loop.ensures; waiting = λ g reaches. c.has_loop.ensures ∙ loop_is_inconsistent reaches }
