-- What it loses and its mark are read off the digits that the after link is given.
use mathlib.Core.Path.{refl, ap, ◌∙◌}
use Prim.Native.Nat.{ℕ}
use native.Mathlib.Omega.{arith}
use Rattle.data_edges.specs.Words.{marked, counted_place}
use Rattle.data_edges.proofs.Digits.{same_edge}
use Rattle.read_links.proofs.Words.{finish_same}
use Rattle.read_links.proofs.finish_word.Goals as goal

pub returns : goal.returns
returns c d least e =
    let digits = c.from-d.ensures in
    c.word.ensures
    ∙ same_edge c.from-to.ensures c.from-from.ensures refl (omega arith) refl refl (ap (λ (x : ℕ). marked x counted_place) digits)
    ∙ finish_same d least _ _ _ _ e
