-- The planner without request L6: how a step record is read, and what is weighed, compared and judged without leasts. All else is worked out from these, by definitions that request L6 left alone.
use Rattle.std.specs.Prelude.{Bool, true, false, not, ◌&&◌, List, ◌++◌, map, ℕ, ◌+◌, ◌-◌, eqb, leb, ltb, get_or, None}
use Rattle.definitions.specs.Limits.{most_steps, most_records}
use Rattle.definitions.specs.Basics.{test_bit, Outcome, given, when_given}
use Rattle.definitions.specs.Bytes.{Parser, ◌>>=◌, ◌>>◌, give, demand, byte, two_bytes, ticks_if, delay_from, records, links, at_end, Records}
use Rattle.definitions.specs.Links.{Constraint, sequencing, minimum, maximum, finish_maximum, links_of, delay_at, Edge, edge_of}
use Rattle.definitions.specs.Rounds.{cell}
use Rattle.definitions.specs.Anchors.{in_anchor_set}
use Rattle.definitions.specs.Waits.{WaitPair, wait_list}
use Rattle.definitions.specs.Plan.{offset_row, delay_limit}
use Rattle.definitions.specs.declared.Delay.{Delay}
use Rattle.definitions.specs.declared.Delay.TheVariants.{Open, Fixed}
use Rattle.definitions.specs.declared.Operation.{Operation}

-- A step record: bit 2 was unknown, as are bits 3 to 7.
unfoldable pub leastless_map : Bool → ℕ → Bool
leastless_map true m = eqb m 1
leastless_map false m = leb m 2

unfoldable pub leastless_operation : Bool → Parser Operation
leastless_operation first = do
  m ← byte
  demand (leastless_map first m) 4
  ticks ← ticks_if (test_bit m 1)
  give (record { delay = delay_from (test_bit m 0) ticks; least = None })

-- A sheet of such records.
unfoldable pub leastless_operations : ℕ → Parser (List Operation)
leastless_operations n = records leastless_operation (λ o. false) n true

unfoldable pub leastless_sheet : Parser Records
leastless_sheet = do
  n ← byte
  demand (leb 1 n && leb n most_steps) 2
  r ← two_bytes
  demand (leb r most_records) 3
  os ← leastless_operations n
  ls ← links n r
  at_end
  give (record { steps = os; pairs = ls })

unfoldable pub leastless_read : List ℕ → Outcome Records
leastless_read s = when_given (leastless_sheet s) (λ t. given t.value)

-- Open durations were taken as 0: an after link out of an open step weighed its gap alone, and a return from its finish −u.
unfoldable pub leastless_sequencing : Delay → ℕ → ℕ → ℕ → Edge
leastless_sequencing (Fixed ticks) i j g = record { from = i; to = j; gain = ticks + g; loss = 0; counted = false; back = false; late = false }
leastless_sequencing Open i j g = record { from = i; to = j; gain = g; loss = 0; counted = not (eqb i 0); back = false; late = false }

unfoldable pub leastless_finish : Delay → ℕ → ℕ → ℕ → Edge
leastless_finish (Fixed ticks) i j u = record { from = j; to = i; gain = 0; loss = ticks + u; counted = false; back = true; late = false }
leastless_finish Open i j u = record { from = j; to = i; gain = 0; loss = u; counted = false; back = true; late = not (eqb i 0) }

unfoldable pub leastless_edge : List Operation → Constraint → Edge
leastless_edge os (sequencing i j g) = leastless_sequencing (delay_at os i) i j g
leastless_edge os (minimum i j m) = edge_of os (minimum i j m)
leastless_edge os (maximum i j u) = edge_of os (maximum i j u)
leastless_edge os (finish_maximum i j u) = leastless_finish (delay_at os i) i j u

unfoldable pub leastless_edges_of : Records → List Edge
leastless_edges_of q = map (leastless_edge q.steps) (links_of q)

-- So a wait weighed 0.
abbrev pub leastless_wait : WaitPair → Edge
leastless_wait w = record { from = w.anchor; to = w.target; gain = 0; loss = 0; counted = true; back = false; late = false }

unfoldable pub leastless_serialized : ℕ → List Edge → List Edge
leastless_serialized n es = es ++ map leastless_wait (wait_list n es)

-- An offset was all that its walk weighs.
unfoldable pub leastless_offset : ℕ → List Edge → ℕ → ℕ → ℕ
leastless_offset n es a v = cell (offset_row n es a) v - 1

-- A member a was left out when offset of b for a, plus offset of v for b, reached the offset of v for a.
unfoldable pub leastless_overrides : ℕ → List Edge → ℕ → ℕ → ℕ → Bool
leastless_overrides n es a v b = not (eqb b a) && in_anchor_set n es b v && in_anchor_set n es a b && leb (leastless_offset n es a v) (leastless_offset n es a b + leastless_offset n es b v)

-- 13: no entry was too small.
unfoldable pub leastless_wrong : List Operation → List ℕ → ℕ → Bool
leastless_wrong os list i = ltb (delay_limit i (delay_at os i)) (get_or list i 0)
