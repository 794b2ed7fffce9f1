-- The bits, added up.
use mathlib.Core.Path.{◌∙◌}
use Rattle.write_fields.proofs.Records.{byte_bit, link_mapped}
use Rattle.write_fields.proofs.link_map.Goals as goal

pub returns : goal.returns
returns c =
    link_mapped _ (c.from.ensures ∙ byte_bit c.args.l.sequencing) c.bound_bit.ensures.same c.bound_bit-2.ensures.same c.bound_bit-3.ensures.same c.bound_bit-4.ensures.same
