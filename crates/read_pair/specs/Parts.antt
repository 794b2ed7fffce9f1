-- The parts of the definitions' parser of a link record that the functions of this crate take over; proofs/Parts.antt shows that they are its parts.
use Rattle.std.specs.Prelude.{ℕ}
use Rattle.definitions.specs.Bytes.{Previous, Parser, ◌>>=◌, ◌>>◌, give, demand, byte, ticks_if, bound_from, endpoints, rises}
use Rattle.definitions.specs.Basics.{test_bit}
use Rattle.definitions.specs.declared.Link.{Link}
use Rattle.read_pair.specs.declared.Fields.{Fields}

-- The ticks of the fields, and the link record that they make.
unfoldable pub link_ticks : ℕ → Parser Fields
link_ticks m = do
  least ← ticks_if (test_bit m 1)
  most ← ticks_if (test_bit m 2)
  gap ← ticks_if (test_bit m 3)
  latest ← ticks_if (test_bit m 4)
  give (record { least = least; most = most; gap = gap; latest = latest })

unfoldable pub link_from : ℕ → ℕ → ℕ → Fields → Link
link_from m i j t = record {
  from = i;
  to = j;
  sequencing = test_bit m 0;
  minimum = bound_from (test_bit m 1) t.least;
  maximum = bound_from (test_bit m 2) t.most;
  gap = bound_from (test_bit m 3) t.gap;
  latest = bound_from (test_bit m 4) t.latest;
}

-- A link record from its fields on, and from its pair on.
unfoldable pub link_fields : ℕ → ℕ → ℕ → Parser Link
link_fields m i j = do
  t ← link_ticks m
  give (link_from m i j t)

unfoldable pub link_pair : ℕ → Previous → ℕ → Parser Link
link_pair n previous m = do
  i ← byte
  j ← byte
  demand (endpoints n i j) 5
  demand (rises previous i j) 6
  link_fields m i j
