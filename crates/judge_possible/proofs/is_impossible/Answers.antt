-- `judge_possible::is_impossible` meets its contract: what the three refusals say of 10 and 11 is said of the whole judgment.
use Rattle.std.proofs.Common.{◌∙◌}
use Rattle.std.specs.Prelude.{Ok, Err}
use Rattle.definitions.specs.Clashes.{is_impossible}
use Rattle.judge_possible.proofs.Possible.{impossible_by}
use Rattle.judge_possible.proofs.is_impossible.Goals as goal

pub returns-in-Ok : goal.returns-in-Ok
unfolding is_impossible
returns-in-Ok c shape entered least =
    impossible_by _ _ least (Ok tt) (c.in-Ok.ensures shape entered)

pub returns-in-Err : goal.returns-in-Err
returns-in-Err c shape entered least =
    c.means_impossible.ensures ∙ impossible_by _ _ least (Err c.in-Err.k) (c.in-Err.ensures shape entered)
