-- Three bytes and the fields.
use Rattle.write_fields.proofs.Records.{link_sized}
use Rattle.write_fields.proofs.link_size.Goals as goal

pub returns : goal.returns
returns c = link_sized _ c.field_size.ensures c.field_size-2.ensures c.field_size-3.ensures c.field_size-4.ensures
