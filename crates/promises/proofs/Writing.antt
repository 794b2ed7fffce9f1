-- What is promised of the sheet writer holds of what the call returns: its contract is an equation with the definition of which the crate demands proves it, and says that the numbers of the parts fit.
use mathlib.Core.Path.{◌≡◌, sym, ap, subst, ◌∙◌}
use Rattle.definitions.specs.Numbers.{Tally, tally_of}
use mathlib.Core.List.{List, ◌++◌}
use Prim.Native.Nat.{ℕ}
use native.Mathlib.Omega.{arith}
use lib.ListN.{length, take, drop}
use lib.Seq.{take_at, take-length}
use Rattle.definitions.specs.Answers.{Written, count_of}
use Rattle.definitions.specs.Basics.{given}
use Rattle.definitions.specs.Bytes.{Records}
use Rattle.definitions.specs.Writer.{parts, sheet_bytes, write_answer}
use Rattle.definitions.specs.declared.Link.{Link}
use Rattle.definitions.specs.declared.Operation.{Operation}
use Rattle.demands.specs.Demands.{IsSheet}
use Rattle.demands.specs.Writing.{SameAnswers, WriteFor, WrittenAgain, WrittenCall}
use Rattle.demands.proofs.Demands.{any_order, read_written, write_exactly, written_read}
use Rattle.write_sheet.specs.Written.{Wrote}
use Rattle.promises.specs.Writing.{AnyOrderIsThat, SheetAgain, WriteHeld, WriteIsThat, WrittenAgainIsThat}

module _ (n r : ℕ) (steps : List Operation) (links : List Link) (buffer : List ℕ) (t : Tally) (after : List ℕ) (call : Wrote n r steps links buffer t after) where
  -- The refusals and the bytes, carried over along the equations of the contract.
  exactly : WriteFor n r steps links buffer (tally_of t) after
  exactly = rw (call.returned.verdict, call.returned.numbers) (write_exactly n r steps links buffer)

  wrote : (k : ℕ) → tally_of t ≡ given k → WrittenCall n r steps links buffer after k
  wrote k h = rw call.returned.numbers (written_read.of_call n r steps links buffer k call.numbers (sym call.returned.verdict ∙ h))

pub write_is_that : WriteIsThat
write_is_that n r steps links buffer t after call = record { wrote = wrote n r steps links buffer t after call; exactly = exactly n r steps links buffer t after call }

-- Both calls give what the definition gives, which is one answer.
pub any_order_is_that : AnyOrderIsThat
any_order_is_that n r steps links links' buffer t t' after after' same call call' =
    let one = any_order n r steps links links' buffer same in
    record {
      returned = call.returned.verdict ∙ ap (λ (w : Written). w.verdict) one ∙ sym call'.returned.verdict;
      bytes = call.returned.numbers ∙ ap (λ (w : Written). w.numbers) one ∙ sym call'.returned.numbers;
    }

-- An answer depends on the parts alone.
by_parts : (n r : ℕ) (steps steps' : List Operation) (links links' : List Link) (buffer : List ℕ) → take n steps ≡ take n steps' → take r links ≡ take r links' → write_answer n r steps links buffer ≡ write_answer n r steps' links' buffer
unfolding write_answer
by_parts n r steps steps' links links' buffer e f = rw (e, f)

-- The parts in the arrays are those of the sheet, so they are written without a refusal, and what is written means what the sheet means.
pub written_again_is_that : WrittenAgainIsThat
written_again_is_that s q steps links buffer t after sheet held_steps held-links room call = record {
  k = size;
  returned = verdict;
  never_longer = A.never_longer;
  same = subst (λ (w : List ℕ). IsSheet w q) (sym front) A.same;
  means = subst (λ (w : List ℕ). SameAnswers w s) (sym front) A.means;
}
  where
    A : WrittenAgain s q
    A = read_written s q sheet

    n : ℕ
    n = count_of q

    r : ℕ
    r = length q.pairs

    size : ℕ
    size = length (sheet_bytes q)

    of_arrays : write_answer n r steps links buffer ≡ write_answer n r q.steps q.pairs buffer
    of_arrays = by_parts n r steps q.steps links q.pairs buffer (held_steps ∙ sym (take-length q.steps)) (held-links ∙ sym (take-length q.pairs))

    verdict : tally_of t ≡ given size
    verdict = call.returned.verdict ∙ ap (λ (w : Written). w.verdict) of_arrays ∙ A.accepts buffer (omega (arith, A.never_longer, room))

    whole : parts n r steps links ≡ q
    whole = rw (held_steps, held-links)

    laid : after ≡ sheet_bytes (parts n r steps links) ++ drop size buffer
    laid = (write_is_that n r steps links buffer t after call).exactly.numbers size verdict

    front : take size after ≡ sheet_bytes q
    front = ap (take size) laid ∙ take_at (sheet_bytes (parts n r steps links)) (drop size buffer) size (ap (λ (p : Records). length (sheet_bytes p)) whole) ∙ ap sheet_bytes whole
