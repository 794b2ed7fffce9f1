-- `read_links::loose_steps` meets its contract: the map 1 is the set of 0.
use mathlib.Core.Path.{ap, ◌∙◌}
use mathlib.Core.Bool.{Bool, not, ◌&&◌}
use lib.Dec.{ltb}
use Rattle.definitions.specs.Basics.{test_bit}
use Rattle.laws.proofs.Maps.{test_pow}
use Rattle.read_links.proofs.loose_steps.Goals as goal

pub returns : goal.returns
returns c =
    let a = c.args in
    record {
      each = λ v.
          c.minus-2.ensures v
          ∙ ap (λ (x : Bool). x && not (test_bit a.entered v)) (c.minus.ensures v ∙ ap (λ (x : Bool). x && not (test_bit 1 v)) (c.below.ensures v) ∙ ap (λ (x : Bool). ltb v a.n && not x) (test_pow 0 v));
    }
