-- The edges of a list of words, place by place: each is that of the word at some place. So are tests of all of them.
use mathlib.Core.Path.{◌≡◌, sym, ap, ◌∙◌}
use mathlib.Core.Bool.{Bool, true, false}
use mathlib.Core.List.Memᴰ
use mathlib.Core.List.{List, Memᴰ}
use Prim.Native.Nat.{ℕ, ◌<◌}
use lib.ListN.{length, get_or}
use Rattle.definitions.specs.Basics.{all}
use Rattle.definitions.specs.Limits.{most_steps}
use Rattle.definitions.specs.Links.{Edge}
use Rattle.data_edges.specs.Words.{EndsBelow, graph, unpack}
use Rattle.laws.proofs.Bools.{both_ways, not_passing}
use Rattle.laws.proofs.Lists.{mem_at, mem_place}
use Rattle.laws.proofs.Tests.{all_by, all_each}
use Rattle.data_edges.proofs.Digits.{to_small}

pub graph_at : (es : List ℕ) (k : ℕ) → k < length es → Memᴰ (unpack (get_or es k 0)) (graph es)
unfolding graph
graph_at es k b = Memᴰ.map unpack (mem_at es k 0 b)

pub graph_place : (es : List ℕ) (e : Edge) → Memᴰ e (graph es) → (k : ℕ) × (k < length es) × (unpack (get_or es k 0) ≡ e)
unfolding graph
graph_place es e m =
    let p = Memᴰ.of_map unpack es m in
    let q = mem_place es 0 p.1 in
    (q.index, q.inside, ap unpack q.here ∙ p.2)

-- An end has six bits.
pub ends_below_64 : (es : List ℕ) → EndsBelow es most_steps
ends_below_64 es k b = to_small (get_or es k 0)

-- Every edge passes a test where every word's does, and not every one where one word's fails.
module _ (test : Edge → Bool) (es : List ℕ) where
  pub graph_passes : ((k : ℕ) → k < length es → test (unpack (get_or es k 0)) ≡ true) → all test (graph es) ≡ true
  graph_passes h = all_by test (graph es) (λ e m. let p = graph_place es e m in ap test (sym p.2) ∙ h p.0 p.1)

  pub graph_fails : (k : ℕ) → k < length es → test (unpack (get_or es k 0)) ≡ false → all test (graph es) ≡ false
  graph_fails k b f = not_passing (all test (graph es)) (λ t. both_ways (all_each test (graph es) t (unpack (get_or es k 0)) (graph_at es k b)) f)
