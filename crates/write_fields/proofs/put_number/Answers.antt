-- The two bytes of the number.
use mathlib.Core.Path.{◌≡◌, ap, ap₂}
use mathlib.Core.List.{List, [], ◌∷◌}
use Prim.Native.Nat.{ℕ, ◌/◌, ◌%◌}
use lib.ListN.{get_or}
use native.Mathlib.Omega.{arith}
use Rattle.definitions.specs.Writer.{two_bytes_of}
use Rattle.data_buffers.proofs.Writing.{put_as}
use Rattle.write_fields.proofs.put_number.Goals as goal

pub returns : goal.returns
unfolding two_bytes_of
returns c =
    let low : get_or c.to_le_bytes.result 0 0 ≡ c.args.x % 256 = omega (arith, ap (λ (l : List ℕ). get_or l 0 0) c.to_le_bytes.ensures) in
    let high : get_or c.to_le_bytes.result 1 0 ≡ c.args.x / 256 = omega (arith, ap (λ (l : List ℕ). get_or l 1 0) c.to_le_bytes.ensures) in
    put_as (ap₂ (λ (a b : ℕ). a ∷ b ∷ []) low high) c.put_two.ensures
