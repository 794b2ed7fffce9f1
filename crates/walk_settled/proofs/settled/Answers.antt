-- `walk_settled::settled` meets its contract.
use mathlib.Core.Path.{sym, ◌∙◌}
use Rattle.data_edges.specs.Serial.{leasts_in}
use Rattle.walk_cells.specs.Tables.{said}
use Rattle.walk_settled.proofs.Handing.{both_pass, edges_fail}
use Rattle.walk_settled.proofs.settled.Goals as goal

pub returns-then-not-settled_edges : goal.returns-then-not-settled_edges
returns-then-not-settled_edges c =
    λ within. sym (edges_fail (said c.args.d.now) c.args.n (leasts_in c.args.leasts.now) c.args.es.now c.args.maps.now (sym c.settled_edges.ensures ∙ c.if-not-settled_edges.true))

pub returns : goal.returns
returns c =
    λ within. c.settled_waits.ensures ∙ both_pass (said c.args.d.now) c.args.n (leasts_in c.args.leasts.now) c.args.es.now c.args.maps.now c.requires.0 (sym c.settled_edges.ensures ∙ c.if-not-settled_edges.false) within
