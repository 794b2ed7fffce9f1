-- The planner without request L1: how a link record is read, and what an after link weighs. All else is worked out from the steps and the edges, by definitions that request L1 left alone.
use Rattle.std.specs.Prelude.{Bool, false, not, ◌&&◌, ◌||◌, List, map, ℕ, eqb, leb, None}
use Rattle.definitions.specs.Bytes.{Previous, Parser, ◌>>=◌, ◌>>◌, give, demand, byte, two_bytes, ticks_if, sequenced, endpoints, rises, bound_from, records, operations, pair_of, at_end, Records}
use Rattle.definitions.specs.Limits.{most_steps, most_records}
use Rattle.definitions.specs.Basics.{test_bit, Outcome, given, when_given}
use Rattle.definitions.specs.Links.{Constraint, sequencing, minimum, maximum, finish_maximum, links_of, delay_at, least_at, Edge, edge_of}
use Rattle.definitions.specs.declared.Delay.{Delay}
use Rattle.definitions.specs.declared.Delay.TheVariants.{Open, Fixed}
use Rattle.definitions.specs.declared.Operation.{Operation}
use Rattle.definitions.specs.declared.Link.{Link}

-- A link record: bit 3 was unknown, as are bits 5 to 7.
unfoldable pub gapless_map : ℕ → Bool
gapless_map m = leb 1 m && leb m 7 || leb 16 m && leb m 23

unfoldable pub gapless_link : ℕ → Previous → Parser Link
gapless_link n previous = do
  m ← byte
  demand (gapless_map m) 4
  demand (sequenced m) 26
  i ← byte
  j ← byte
  demand (endpoints n i j) 5
  demand (rises previous i j) 6
  least ← ticks_if (test_bit m 1)
  most ← ticks_if (test_bit m 2)
  latest ← ticks_if (test_bit m 4)
  give (record { from = i; to = j; sequencing = test_bit m 0; minimum = bound_from (test_bit m 1) least; maximum = bound_from (test_bit m 2) most; gap = None; latest = bound_from (test_bit m 4) latest })

-- A sheet of such records.
unfoldable pub gapless_links : ℕ → ℕ → Parser (List Link)
gapless_links n r = records (gapless_link n) pair_of r None

unfoldable pub gapless_sheet : Parser Records
gapless_sheet = do
  n ← byte
  demand (leb 1 n && leb n most_steps) 2
  r ← two_bytes
  demand (leb r most_records) 3
  os ← operations n
  ls ← gapless_links n r
  at_end
  give (record { steps = os; pairs = ls })

unfoldable pub gapless_read : List ℕ → Outcome Records
gapless_read s = when_given (gapless_sheet s) (λ t. given t.value)

-- An after link weighed the duration alone, an open one taken as its least.
unfoldable pub gapless_sequencing : Delay → ℕ → ℕ → ℕ → Edge
gapless_sequencing (Fixed ticks) least i j = record { from = i; to = j; gain = ticks; loss = 0; counted = false; back = false; late = false }
gapless_sequencing Open least i j = record { from = i; to = j; gain = least; loss = 0; counted = not (eqb i 0); back = false; late = false }

unfoldable pub gapless_edge : List Operation → Constraint → Edge
gapless_edge os (sequencing i j g) = gapless_sequencing (delay_at os i) (least_at os i) i j
gapless_edge os (minimum i j m) = edge_of os (minimum i j m)
gapless_edge os (maximum i j u) = edge_of os (maximum i j u)
gapless_edge os (finish_maximum i j u) = edge_of os (finish_maximum i j u)

unfoldable pub gapless_edges_of : Records → List Edge
gapless_edges_of q = map (gapless_edge q.steps) (links_of q)
