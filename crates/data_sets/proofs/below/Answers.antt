-- `data_sets::below` meets its contract: one less than a power of two has every bit below it.
use native.Mathlib.Omega.{arith}
use mathlib.Core.Path.{◌≡◌, ap, ◌∙◌}
use mathlib.Core.Bool.{Bool, ◌&&◌, and-true, not}
use Prim.Native.Nat.{ℕ, ◌+◌, ◌^◌}
use lib.Dec.{ltb}
use Rattle.definitions.specs.Basics.{test_bit}
use Rattle.laws.proofs.Maps.{below_pow, one_shl, test_rest, test_zero}
use Rattle.data_sets.proofs.below.Goals as goal

all_bits : (n x v : ℕ) → x + 1 ≡ 2 ^ n → test_bit x v ≡ ltb v n
all_bits n x v h = test_rest n x 0 v h ∙ ap (λ (t : Bool). ltb v n && not t) (test_zero v) ∙ and-true (ltb v n)

pub returns-then-n-lt64 : goal.returns-then-n-lt64
returns-then-n-lt64 c v = all_bits c.args.n _ v (omega (arith, one_shl c.args.n c.if-n-lt64.true, below_pow c.args.n))

pub returns-else-n-lt64 : goal.returns-else-n-lt64
returns-else-n-lt64 c v =
    let e : 64 ≡ c.args.n = omega arith in
    all_bits 64 18446744073709551615 v (omega arith) ∙ ap (ltb v) e
