-- The two low bits of the map are the record's forward links.
use mathlib.Core.Path.{ap, ◌∙◌}
use mathlib.Core.Bool.{Bool, ◌||◌}
use Rattle.definitions.specs.Basics.{test_bit}
use Rattle.read_links.proofs.Completing.{enters_by}
use Rattle.read_links.proofs.with_entered.Goals as goal

pub returns : goal.returns
returns c =
    let a = c.args in
    record { each = λ i t v. c.insert_if.ensures v ∙ ap (λ (x : Bool). test_bit a.entered v || x) (enters_by a.m i a.to _ t v c.from.ensures) }
