-- The map, then i and j.
use mathlib.Core.Path.{ap}
use mathlib.Core.List.{[], ◌∷◌}
use native.Mathlib.Omega.{arith}
use Rattle.data_buffers.proofs.Writing.{put_as, put_then}
use Rattle.write_fields.proofs.Records.{front_parts}
use Rattle.write_fields.proofs.put_pair.Goals as goal

pub returns : goal.returns
returns c =
    let mapped = put_as (ap (λ m. m ∷ []) c.link_map.ensures) c.put_byte-p.ensures in
    put_as (front_parts _) (put_then mapped c.put_two.ensures (omega arith))
