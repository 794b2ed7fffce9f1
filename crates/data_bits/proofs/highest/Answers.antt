-- The digits above the highest 1 are the numbers above the largest member.
use mathlib.Core.Path.{◌≡◌}
use borrow.Author.Rules.{rules}
use native.Mathlib.Omega.{arith}
use Prim.Native.Nat.{◌-◌}
use lib.Count.{count_leading_zeros}
use Rattle.laws.proofs.Maps.{highest_place}
use Rattle.data_bits.proofs.highest.Goals as goal

pub overflow_cast-result : goal.overflow_cast-result
overflow_cast-result c = let t = highest_place 64 c.args.m (search rules) c.requires in record { fits = omega arith }

pub overflow_sub-result : goal.overflow_sub-result
overflow_sub-result c = let t = highest_place 64 c.args.m (search rules) c.requires in omega arith

pub returns : goal.returns
returns c =
    let t = highest_place 64 c.args.m (search rules) c.requires in
    let e : 63 - count_leading_zeros 64 c.args.m ≡ t.0 = omega arith in
    rw e (record { below = omega arith; member = t.2; greatest = t.3 })
