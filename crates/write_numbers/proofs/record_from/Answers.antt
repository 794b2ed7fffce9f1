-- A map with an unknown bit, or part by part.
use Rattle.write_numbers.proofs.Decoded.{record_wrong, record_known}
use Rattle.write_numbers.proofs.record_from.Goals as goal

pub returns-then-map-gt31 : goal.returns-then-map-gt31
returns-then-map-gt31 c = record_wrong _ _ _ _ _ _ _ c.if-map-gt31.true

pub returns : goal.returns
returns c =
    record_known _ _ _ _ _ _ _ c.if-map-gt31.false _ c.end_from.ensures c.end_from-2.ensures c.has.ensures c.field_from.ensures c.field_from-2.ensures c.field_from-3.ensures c.field_from-4.ensures
