-- The word of an edge that loses the ticks.
use mathlib.Core.Path.{refl, ◌∙◌}
use Rattle.data_edges.proofs.Digits.{same_edge}
use Rattle.read_links.proofs.maximum_word.Goals as goal

pub returns : goal.returns
returns c = c.word.ensures ∙ same_edge c.from-to.ensures c.from-from.ensures refl c.from.ensures refl refl refl
