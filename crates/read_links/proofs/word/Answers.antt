-- `read_links::word` meets its contract: the digits fit one behind the other, so nothing wraps.
use mathlib.Core.Path.{refl}
use Rattle.data_edges.proofs.Digits.{unpack_word}
use Rattle.read_links.proofs.word.Goals as goal

pub returns : goal.returns
returns c = unpack_word _ c.requires refl
