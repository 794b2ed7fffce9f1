-- The map and the pair, then the fields, one behind the other.
use Prim.Native.Nat.{ℕ, ◌+◌, ◌≤◌}
use lib.ListN.{length}
use native.Mathlib.Omega.{arith}
use Rattle.definitions.specs.Writer.{link_bytes}
use Rattle.definitions.specs.declared.Link.{Link}
use Rattle.data_buffers.proofs.Writing.{put_as, put_then, put_room}
use Rattle.write_fields.proofs.Records.{link_rooms, link_parts}
use Rattle.write_fields.proofs.put_link.Goals as goal

-- The record begins in the buffer.
begins : (l : Link) (at m : ℕ) → at + length (link_bytes l) ≤ m → at ≤ m
begins l at m room = omega arith

pub put_pair-p-requires : goal.put_pair-p-requires
put_pair-p-requires c = (link_rooms _ _ c.args.l c.requires).front

pub put_field-q-requires : goal.put_field-q-requires
put_field-q-requires c = put_room c.put_pair-p.ensures _ (link_rooms _ _ c.args.l c.requires).minimum

pub put_field-s-requires : goal.put_field-s-requires
put_field-s-requires c =
    let b = begins c.args.l _ _ c.requires in
    put_room (put_then c.put_pair-p.ensures c.put_field-q.ensures b) _ (link_rooms _ _ c.args.l c.requires).maximum

pub put_field-t-requires : goal.put_field-t-requires
put_field-t-requires c =
    let b = begins c.args.l _ _ c.requires in
    put_room (put_then (put_then c.put_pair-p.ensures c.put_field-q.ensures b) c.put_field-s.ensures b) _ (link_rooms _ _ c.args.l c.requires).gap

pub put_field-requires : goal.put_field-requires
put_field-requires c =
    let b = begins c.args.l _ _ c.requires in
    let to_gap = put_then (put_then (put_then c.put_pair-p.ensures c.put_field-q.ensures b) c.put_field-s.ensures b) c.put_field-t.ensures b in
    put_room to_gap _ (link_rooms _ _ c.args.l c.requires).latest

pub returns : goal.returns
returns c =
    let b = begins c.args.l _ _ c.requires in
    let to_gap = put_then (put_then (put_then c.put_pair-p.ensures c.put_field-q.ensures b) c.put_field-s.ensures b) c.put_field-t.ensures b in
    put_as (link_parts _) (put_then to_gap c.put_field.ensures b)
