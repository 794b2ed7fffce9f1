-- A text that is written from the front of the buffer, and the line of a refusal.
use mathlib.Core.Path.{◌≡◌, refl, sym, subst, ap, ◌∙◌}
use mathlib.Core.List.{List, [], ◌∷◌, ◌++◌}
use Prim.Native.Nat.{ℕ, ◌+◌, ◌≤◌}
use native.Mathlib.Omega.{arith}
use lib.ListN.{length, take, drop, length-append}
use lib.Seq.{take_at}
use Rattle.definitions.specs.Output.{field, newline}
use Rattle.data_buffers.specs.Texts.{Put, texts}
use Rattle.data_buffers.proofs.Writing.{put_front}
use Rattle.print_line.specs.Texts.{Printed, heading, line}
use Rattle.print_line.proofs.Digits.{field_length}

pub put_printed : {s : List ℕ} {r : ℕ} {old new : List ℕ} → Put s 0 r old new → Printed s r old new
put_printed f = record { long = omega (arith, f.behind); bytes = put_front f }

-- A text under another name.
pub printed_as : {t u : List ℕ} {size : ℕ} {old new : List ℕ} → t ≡ u → Printed t size old new → Printed u size old new
printed_as {size = size} {old = old} {new = new} e p = subst (λ (t : List ℕ). Printed t size old new) e p

-- The text lies within the buffer.
pub printed_within : {t : List ℕ} {size : ℕ} {old new : List ℕ} → Printed t size old new → size ≤ length new
printed_within {t} {size} {old} p = omega (arith, p.long, ap length p.bytes, length-append t (drop (length t) old))

-- A heading is the line of its word and its number, which has at most ten digits.
pub heading_as_line : (word : List ℕ) (x : ℕ) → line word (x ∷ []) ≡ heading word x
unfolding line texts heading
heading_as_line word x = refl

pub heading_limit : (word : List ℕ) (x : ℕ) → length (heading word x) ≤ length word + 12
unfolding heading
heading_limit word x = omega (arith, length-append (word ++ field x) newline, length-append word (field x), field_length x)

-- What stands before the end that is returned is the text.
pub printed_taken : {t : List ℕ} {size : ℕ} {old new : List ℕ} → Printed t size old new → take size new ≡ t
printed_taken {t} {size} {old} p = ap (take size) p.bytes ∙ take_at t (drop (length t) old) size (sym p.long)
