-- Sizes that the code has as constants (src/lib.rt), where proofs have to name them.
use Rattle.std.specs.Prelude.{ℕ, ◌+◌, ◌*◌}
use Rattle.definitions.specs.Limits.{most_edges, most_steps}

-- Few edges: their adjacency lists are much cheaper to clear than those of the most.
abbrev pub few_edges : ℕ
few_edges = 256

-- What the lists of few edges need, and those of the most: a number for each step and each edge, one for each edge that may be a return, and a 0 behind them.
abbrev pub few_listed : ℕ
few_listed = most_steps + 2 * few_edges + 1

abbrev pub most_listed : ℕ
most_listed = most_steps + 2 * most_edges + 1
