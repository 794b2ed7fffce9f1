-- `walk_sweep::sweep` meets its contract. Invariant, with k visits left: the steps from k to n have handed on, by the visits that have been, and the row lent to visits is whole.
use mathlib.Core.Path.{◌≡◌}
use Prim.Native.Nat.{◌-◌, ◌≤◌, ◌<◌}
use lib.ListN.{length}
use Rattle.data_edges.specs.Serial.{leasts_in}
use Rattle.walk_sweep.specs.Graphs.{SweptBy, visits}
use Rattle.walk_sweep.proofs.sweep.Given as goal

abbrev pub invariant-loop-k : goal.invariant-loop-k
invariant-loop-k l =
    (l.k ≤ visits l.n) × SweptBy l.es.words.now (leasts_in l.leasts) l.waiting l.number l.width (λ v. (l.k ≤ v) × (v < l.n)) (visits l.n - l.k) l.fn.d l.d l.marks l.left × (length l.row ≡ 64)
