-- The digits that are added stand above both ends.
use native.Mathlib.Omega.{arith}
use Rattle.read_links.proofs.Words.{sequencing_unpacked}
use Rattle.read_links.proofs.sequencing_word.Goals as goal

pub returns : goal.returns
returns c d least e = sequencing_unpacked d least _ _ _ _ _ c.requires (omega arith) e (omega arith)
