-- The bits, added up.
use mathlib.Core.Path.{ap, ◌∙◌}
use Rattle.std.specs.Prelude.{Option, ℕ}
use Rattle.definitions.specs.Writer.{bit_of}
use Rattle.write_fields.proofs.Records.{step_mapped}
use Rattle.write_fields.proofs.step_map.Goals as goal

pub returns : goal.returns
returns c = step_mapped _ c.unbounded_bit.ensures.same (c.bound_bit.ensures.same ∙ ap (λ (b : Option ℕ). bit_of b 2) c.duration.ensures) c.bound_bit-2.ensures.same
