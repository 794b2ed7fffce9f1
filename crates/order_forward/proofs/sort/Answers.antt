-- Without an order forward edges close a circle; with one the rows that are drawn along it are the anchor sets.
use mathlib.Core.Path.{ap, ◌∙◌}
use mathlib.Core.Bool.{not}
use Rattle.order_steps.proofs.Circles.{arranged_circle}
use Rattle.order_forward.proofs.Anchoring.{drawn_sets}
use Rattle.order_forward.proofs.Drawing.{entered_by}
use Rattle.order_forward.proofs.Faults.{sorting_circle, sorting_sets}
use Rattle.order_forward.proofs.sort.Goals as goal

pub returns-then-not-arrange : goal.returns-then-not-arrange
returns-then-not-arrange c shape into = sorting_circle (arranged_circle c.predecessors.ensures.0 shape c.arrange.ensures ∙ ap not c.if-not-arrange.true)

pub draw-requires : goal.draw-requires
draw-requires c = record { few = c.requires.few; ordered = c.arrange.ensures.ordered c.if-not-arrange.false; long = (entered_by _ _ _ c.predecessors.ensures.1 c.insert.ensures).long }

pub returns : goal.returns
returns c shape into =
    let p = c.requires in
    let ok = c.if-not-arrange.false in
    let P = c.predecessors.ensures.0 in
    let O = c.arrange.ensures.ordered ok in
    sorting_sets (arranged_circle P shape c.arrange.ensures ∙ ap not ok) (drawn_sets p.few p.some shape P O (entered_by _ _ _ c.predecessors.ensures.1 c.insert.ensures) c.draw.ensures into)
