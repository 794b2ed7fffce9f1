-- A map and the fields.
use mathlib.Core.Path.{subst}
use Rattle.std.specs.Prelude.{Option, ℕ}
use Rattle.definitions.specs.Writer.{field_of}
use Rattle.write_fields.specs.Sizes.{Sized}
use Rattle.write_fields.proofs.Records.{step_sized}
use Rattle.write_fields.proofs.step_size.Goals as goal

pub returns : goal.returns
returns c =
    step_sized _ (subst (λ (b : Option ℕ). Sized 2 (field_of b) c.field_size.result) c.duration.ensures c.field_size.ensures) c.field_size-2.ensures
