-- `data_lists::link` meets its contract.
use native.Mathlib.Omega.{arith}
use mathlib.Core.Path.{refl}
use lib.ListN.{length-set}
use Rattle.data_lists.specs.Lists.{put_first}
use Rattle.data_lists.proofs.link.Goals as goal

pub bounds-lists-from-2 : goal.bounds-lists-from-2
bounds-lists-from-2 c = simp length-set (omega arith)

pub returns : goal.returns
unfolding put_first
returns c = rw c.edge_from-from.ensures.0 refl
