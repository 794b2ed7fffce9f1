-- `plan_walks::fill` meets its contract: where the verdict that it is given accepts, step 0 is in every set, so the search for walks tells 10, and the tables hold what they should.
use native.Mathlib.Omega.{arith}
use mathlib.Core.Path.{sym, ◌∙◌}
use Rattle.laws.proofs.Bools.{both_ways}
use Rattle.walk_cells.specs.Tables.{read_by}
use Rattle.walk_cells.proofs.Tables.{square_own}
use Rattle.plan_walks.proofs.Sourcing.{source_in}
use Rattle.plan_walks.proofs.Tables.{ends_within, plannable_holds}
use Rattle.plan_walks.proofs.fill.Goals as goal

pub returns-then-not-accepted : goal.returns-then-not-accepted
returns-then-not-accepted c =
    let no = sym c.accepted.ensures ∙ c.if-not-accepted.true in
    record { told = λ rooted long. c.feasible.ensures c.requires.0.sheet.formed.shape rooted; held = λ h k p. absurd (both_ways k no) }

pub walks_if_possible-requires : goal.walks_if_possible-requires
walks_if_possible-requires c =
    let asked = c.requires in
    let p = asked.0 in
    record { some = p.sheet.some; few = p.sheet.few; inside = p.rows; bare = p.empty; blank = asked.1; ends = ends_within _ _ p.sheet.formed.shape p.rows }

pub returns : goal.returns
returns c =
    let sheet = c.requires.0.sheet in
    let told = c.walks_if_possible.ensures in
    record {
      told = λ rooted long. told.told sheet.formed.shape rooted sheet.formed.gains sheet.formed.leasts (source_in c.args.sets.now c.add_source.new.rows (c.add_source.ensures long));
      held = λ possible k p. record {
        well = p.well;
        serial = p.serial;
        rows = record { few = sheet.few; inside = omega (arith, c.requires.0.rows, told.square.rows); square = square_own told.square };
        holds = plannable_holds c.add_source.new.rows (read_by c.walks_if_possible.new.number c.walks_if_possible.new.d) sheet.few p (told.cells possible) (c.add_source.ensures p.long);
      };
    }
