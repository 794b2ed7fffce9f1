-- The word of an edge that gains the ticks.
use mathlib.Core.Path.{refl, ◌∙◌}
use Rattle.data_edges.proofs.Digits.{same_edge}
use Rattle.read_links.proofs.minimum_word.Goals as goal

pub returns : goal.returns
returns c = c.word.ensures ∙ same_edge c.from-from.ensures c.from-to.ensures c.from.ensures refl refl refl refl
