-- The digits below the lowest 1 are the numbers below the smallest member.
use borrow.Author.Rules.{rules}
use native.Mathlib.Omega.{arith}
use Prim.Native.Nat.{◌≤◌}
use lib.Count.{count_trailing_zeros, trailing_le}
use Rattle.laws.proofs.Maps.{lowest_lt, lowest_stands, lowest_least}
use Rattle.data_bits.proofs.lowest.Goals as goal

pub overflow_cast-result : goal.overflow_cast-result
overflow_cast-result c = let h : count_trailing_zeros 64 c.args.m ≤ 64 = trailing_le 64 c.args.m in record { fits = omega arith }

pub returns : goal.returns
returns c = record { below = lowest_lt 64 c.args.m (search rules) c.requires; member = lowest_stands 64 c.args.m (search rules) c.requires; least = lowest_least 64 c.args.m }
