-- The last field ends within the bytes, and then all of them do, or one of them is cut off.
use mathlib.Core.Path.{◌≡◌, sym, ap₂, ◌∙◌}
use native.Mathlib.Omega.{arith}
use Prim.Native.Nat.{ℕ, ◌≤◌}
use lib.ListN.{length}
use Rattle.read_fields.specs.Answers.{item_at}
use Rattle.read_pair.specs.declared.Fields.{Fields}
use Rattle.read_pair.proofs.Parts.{ticks_end, fields_at, ticks_there, ticks_cut}
use Rattle.read_pair.proofs.read_fields.Goals as goal

-- Where the last field ends, as the code and as the map say it.
pub returns-then-s-end : goal.returns-then-s-end
returns-then-s-end c =
    let a = c.args in
    let ends : c.field_end-end.result ≡ ticks_end a.m a.at = cc in
    record { same = sym (ticks_cut a.m a.s.now a.at c.requires (omega arith)); inside = omega arith }

pub returns : goal.returns
returns c =
    let a = c.args in
    let bytes = a.s.now in
    let ends : c.field_end-end.result ≡ ticks_end a.m a.at = cc in
    let inside : ticks_end a.m a.at ≤ length bytes = omega arith in
    let same : ◌≡◌ {A = Fields} (record { least = c.field.result; most = c.field-2.result; gap = c.field-3.result; latest = c.field-4.result }) (fields_at a.m bytes a.at) = cc in
    record { same = ap₂ (λ (t : Fields) (next : ℕ). item_at bytes t next) same ends ∙ sym (ticks_there a.m bytes a.at inside); inside = omega arith }
