-- The mark late of a union of words: a bit of its own, so the union has it where one of the words has.
use mathlib.Core.Path.{◌≡◌, refl}
use mathlib.Core.Bool.{false, ◌||◌}
use Prim.Native.Nat.{ℕ}
use Rattle.definitions.specs.Basics.{test_bit}
use Rattle.data_edges.specs.Words.{unpack}

pub late_none : (unpack 0).late ≡ false
unfolding unpack
late_none = refl

pub late_union : (w v m : ℕ) → ((j : ℕ) → test_bit m j ≡ (test_bit w j || test_bit v j)) → (unpack m).late ≡ ((unpack w).late || (unpack v).late)
unfolding test_bit unpack
late_union w v m joins = joins 62
