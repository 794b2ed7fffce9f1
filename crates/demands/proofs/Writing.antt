-- Request L4: the theorem on what is written and then read, of parts and of the call that writes.
use mathlib.Core.Path.{◌≡◌, sym, ap, ◌∙◌}
use mathlib.Core.List.{List, ◌++◌}
use Prim.Native.Nat.{ℕ, ◌≤◌, ◌<◌}
use native.Mathlib.Omega.{arith}
use lib.ListN.{length, take, drop, length-append, length-drop, length-take}
use lib.Seq.{take_at, drop_at}
use Rattle.definitions.specs.Basics.{given}
use Rattle.definitions.specs.Bytes.{Records}
use Rattle.definitions.specs.Writer.{sheet_bytes, parts, write_answer}
use Rattle.definitions.specs.declared.Operation.{Operation}
use Rattle.definitions.specs.declared.Link.{Link}
use Rattle.demands.specs.Writing.{Numbers, NoFault, Short, fewer_steps, fewer_links, no_room, WrittenFor, WrittenCall, WrittenRead}
use Rattle.demands.proofs.WritingOrder.{rising_length}
use Rattle.demands.proofs.WritingRead.{reads_written}
use Rattle.demands.proofs.WritingBytes.{written_bytes, written_short}
use Rattle.demands.proofs.WritingFaults.{passing_by}
use Rattle.demands.proofs.WritingRefusals.{write_for}

pub written_for : (q : Records) → Numbers q → NoFault (length q.steps) (length q.pairs) q → WrittenFor q
written_for q numbers none =
    let P = passing_by none in
    record { sheet = record { bytes = written_bytes q numbers P; reads = reads_written q P }; longest = written_short q P }

-- As many steps and records as their counts say are there, since 14 is not given; so the parts have these counts, and what is written of them stands in front of what was lent.
written_call : (n r : ℕ) (steps : List Operation) (links : List Link) (buffer : List ℕ) (k : ℕ) → Numbers (parts n r steps links) → (write_answer n r steps links buffer).verdict ≡ given k → WrittenCall n r steps links buffer (write_answer n r steps links buffer).numbers k
written_call n r steps links buffer k numbers h = record {
  sheet = rw front W.sheet;
  count = as_counted;
  records = rising_length (take r links) ∙ as_many;
  past = ap (drop k) laid ∙ drop_at (sheet_bytes q) (drop k buffer) k (sym A.2);
  size = ap length laid ∙ omega (arith, length-append (sheet_bytes q) (drop k buffer), length-drop k buffer, A.2, room);
  longest = omega (arith, A.2, W.longest);
}
  where
    q : Records
    q = parts n r steps links

    A : NoFault n r q × (¬ Short n r steps links buffer) × (k ≡ length (sheet_bytes q))
    A = ((write_for n r steps links buffer).accepted k).0 h

    -- 14 is not given, so nothing is fewer than it has to be.
    as_counted : length (take n steps) ≡ n
    as_counted = let b : ¬ (length steps < n) = λ h. A.1 (fewer_steps h) in omega (arith, length-take n steps)

    as_many : length (take r links) ≡ r
    as_many = let b : ¬ (length links < r) = λ h. A.1 (fewer_links h) in omega (arith, length-take r links)

    room : length (sheet_bytes q) ≤ length buffer
    room = let b : ¬ (length buffer < length (sheet_bytes q)) = λ h. A.1 (no_room h) in omega arith

    W : WrittenFor q
    W = written_for q numbers (rw (as_counted, as_many) A.0)

    laid : (write_answer n r steps links buffer).numbers ≡ sheet_bytes q ++ drop k buffer
    laid = (write_for n r steps links buffer).numbers k h

    front : take k (write_answer n r steps links buffer).numbers ≡ sheet_bytes q
    front = ap (take k) laid ∙ take_at (sheet_bytes q) (drop k buffer) k (sym A.2)

pub written_all : WrittenRead
written_all = record { of_parts = written_for; of_call = written_call }
