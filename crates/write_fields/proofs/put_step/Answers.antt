-- The map, the duration, the least.
use mathlib.Core.Path.{ap, subst, sym}
use Rattle.std.specs.Prelude.{Option}
use mathlib.Core.List.{[], ◌∷◌, ◌++◌}
use Prim.Native.Nat.{ℕ, ◌+◌, ◌≤◌}
use lib.ListN.{length}
use native.Mathlib.Omega.{arith}
use Rattle.definitions.specs.Writer.{duration_of, field_of, operation_map_of}
use Rattle.data_buffers.specs.Texts.{Put}
use Rattle.data_buffers.proofs.Writing.{put_as, put_then, put_room}
use Rattle.write_fields.proofs.Records.{step_rooms, step_parts}
use Rattle.write_fields.proofs.put_step.Goals as goal
use Rattle.write_fields.proofs.put_step.Goals.{After-put_byte-p, After-put_field-q}

-- What has been put: the map, and the duration behind it.
mapped : (c : After-put_byte-p) → Put (operation_map_of c.args.o ∷ []) c.args.at c.put_byte-p.result c.args.out.now c.put_byte-p.new.out
mapped c = put_as (ap (λ m. m ∷ []) c.step_map.ensures) c.put_byte-p.ensures

lasting : (c : After-put_field-q) →
    Put ((operation_map_of c.args.o ∷ []) ++ field_of (duration_of c.args.o.delay)) c.args.at c.put_field-q.result c.args.out.now c.put_field-q.new.out
lasting c =
    put_then (put_as (ap (λ m. m ∷ []) c.step_map.ensures) c.put_byte-p.ensures) (put_as (ap field_of c.duration.ensures) c.put_field-q.ensures) (omega (arith, (step_rooms _ _ c.args.o c.requires).map))

pub put_byte-p-requires : goal.put_byte-p-requires
put_byte-p-requires c = omega (arith, (step_rooms _ _ c.args.o c.requires).map)

pub put_field-q-requires : goal.put_field-q-requires
put_field-q-requires c =
    let mapped = mapped (goal.at.put_field-q-requires c).After-put_byte-p in
    subst (λ (b : Option ℕ). c.put_byte-p.result + length (field_of b) ≤ length c.put_byte-p.new.out) (sym c.duration.ensures) (put_room mapped (field_of (duration_of c.args.o.delay)) (step_rooms _ _ c.args.o c.requires).duration)

pub put_field-requires : goal.put_field-requires
put_field-requires c = put_room (lasting (goal.at.put_field-requires c).After-put_field-q) _ (step_rooms _ _ c.args.o c.requires).least

pub returns : goal.returns
returns c =
    put_as (step_parts _) (put_then (lasting (goal.at.returns c).After-put_field-q) c.put_field.ensures (omega (arith, (step_rooms _ _ c.args.o c.requires).map)))
