-- Request L4, "A sheet writer", stated of what `write` of the crate write_sheet returns. Definitions alone: the theorem of the same name in small letters, in proofs/Writing.antt, proves it.
-- What the function returned is said by what its contract cites, `Wrote`: t is its answer, `after` the buffer that was lent. Quoted sentences are document 02's.
use Rattle.std.specs.Prelude.{◌≡◌, ℕ, ◌≤◌, length, take}
use Rattle.definitions.specs.Numbers.{Tally, tally_of}
use mathlib.Core.List.{List, Permᴰ}
use Rattle.definitions.specs.Answers.{count_of}
use Rattle.definitions.specs.Basics.{given}
use Rattle.definitions.specs.Bytes.{Records}
use Rattle.definitions.specs.declared.Link.{Link}
use Rattle.definitions.specs.declared.Operation.{Operation}
use Rattle.demands.specs.Demands.{IsSheet}
use Rattle.demands.specs.Writing.{SameAnswers, WriteFor, WrittenCall}
use Rattle.write_sheet.specs.Written.{Wrote}

-- "What is written and then read gives the same steps and, rising, the same records": the first k bytes, where k is the length that was returned. And "turned away": each refusal exactly, and nothing changes on one.
pub record WriteHeld (n r : ℕ) (steps : List Operation) (links : List Link) (buffer : List ℕ) (t : Tally) (after : List ℕ) : Type 0 where
  pub wrote : (k : ℕ) → tally_of t ≡ given k → WrittenCall n r steps links buffer after k
  pub exactly : WriteFor n r steps links buffer (tally_of t) after

abbrev pub WriteIsThat : Type 0
WriteIsThat = (n r : ℕ) (steps : List Operation) (links : List Link) (buffer : List ℕ) (t : Tally) (after : List ℕ) → Wrote n r steps links buffer t after → WriteHeld n r steps links buffer t after

-- "Records may come in any order": two calls, t and t', that are lent the same but for the order of the first r records return the same, and leave the same bytes.
pub record SameWriting (t t' : Tally) (after after' : List ℕ) : Type 0 where
  pub returned : tally_of t ≡ tally_of t'
  pub bytes : after ≡ after'

abbrev pub AnyOrderIsThat : Type 0
AnyOrderIsThat = (n r : ℕ) (steps : List Operation) (links links' : List Link) (buffer : List ℕ) (t t' : Tally) (after after' : List ℕ)
    → Permᴰ (take r links) (take r links') → Wrote n r steps links buffer t after → Wrote n r steps links' buffer t' after' → SameWriting t t' after after'

-- "A sheet read and written again means the same and is never longer." The arrays hold the steps and the link records of the sheet s, and the buffer has room for as many bytes as s has: k bytes are written.
pub record SheetAgain (s : List ℕ) (q : Records) (t : Tally) (after : List ℕ) : Type 0 where
  pub k : ℕ
  pub returned : tally_of t ≡ given k
  pub never_longer : k ≤ length s
  pub same : IsSheet (take k after) q
  pub means : SameAnswers (take k after) s

abbrev pub WrittenAgainIsThat : Type 0
WrittenAgainIsThat = (s : List ℕ) (q : Records) (steps : List Operation) (links : List Link) (buffer : List ℕ) (t : Tally) (after : List ℕ)
    → IsSheet s q → take (count_of q) steps ≡ q.steps → take (length q.pairs) links ≡ q.pairs → length s ≤ length buffer
    → Wrote (count_of q) (length q.pairs) steps links buffer t after → SheetAgain s q t after
