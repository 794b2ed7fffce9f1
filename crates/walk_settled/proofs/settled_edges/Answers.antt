-- All words pass exactly where all edges do.
use Rattle.std.proofs.Common.{rules, ◌≡◌, ◌<◌, ◌↔◌, ℕ, true, get_or, length}
use Rattle.laws.proofs.Bools.{same_test}
use Rattle.laws.proofs.Tests.{all_each}
use Rattle.data_edges.specs.Words.{graph, unpack}
use Rattle.data_edges.proofs.Places.{graph_at, graph_passes}
use Rattle.walk_cells.specs.Tables.{said}
use Rattle.walk_settled.specs.Settled.{handed_on}
use Rattle.walk_settled.proofs.settled_edges.Goals as goal

pub returns : goal.returns
returns c =
    let es = c.args.es.now in
    let test = handed_on (said c.args.d.now) in
    let passes : (c.all.result ≡ true) ↔ ((k : ℕ) → k < length es → test (unpack (get_or es k 0)) ≡ true) = search rules in
    same_test _ _ (λ t. graph_passes test es (passes.0 t)) (λ t. passes.1 (λ k b. all_each test (graph es) t _ (graph_at es k b)))
