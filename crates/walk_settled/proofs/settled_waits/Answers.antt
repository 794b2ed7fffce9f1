use native.Mathlib.Omega.{arith}
use mathlib.Core.Path.{sym, ◌∙◌}
use lib.ListN.{get_or}
use Rattle.data_edges.specs.Serial.{leasts_in}
use Rattle.laws.proofs.Bools.{both_ways, not_passing}
use Rattle.laws.proofs.Searches.{all_below_more, all_below_nothing}
use Rattle.laws.proofs.Tests.{all_below_by, all_below_each}
use Rattle.walk_cells.specs.Tables.{said}
use Rattle.walk_settled.specs.Settled.{waits_handed_on}
use Rattle.walk_settled.proofs.settled_waits.Goals as goal

pub loop-i-init : goal.loop-i-init
loop-i-init c = all_below_nothing _

pub returns-then-not-settled_row : goal.returns-then-not-settled_row
returns-then-not-settled_row c = sym (not_passing _ (λ t. both_ways (all_below_each _ _ t _ c.loop-i-test.true) (sym c.settled_row.ensures ∙ c.if-not-settled_row.true)))

pub loop-i-preserved : goal.loop-i-preserved
loop-i-preserved c = all_below_more (λ j. waits_handed_on (said c.args.d.now) (leasts_in c.args.leasts.now) (get_or c.args.maps.now j 0) j) c.loop-i.i c.loop-i.invariant (sym c.settled_row.ensures ∙ c.if-not-settled_row.false)

pub returns : goal.returns
returns c = sym (all_below_by _ _ (λ j b. all_below_each _ c.loop-i.i c.loop-i.invariant j (omega arith)))
