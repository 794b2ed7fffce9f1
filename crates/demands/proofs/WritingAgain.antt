-- Request L4: the theorem on a sheet that is read and written again: it means the same and is never longer.
use mathlib.Core.Path.{◌≡◌, refl, sym, ap, ◌∙◌}
use mathlib.Core.List.{List, ◌++◌, flat_map}
use Prim.Native.Nat.{ℕ, ◌+◌, ◌*◌, ◌≤◌}
use native.Mathlib.Omega.{arith}
use lib.ListN.{length, length-append}
use lib.Seq.{take-length}
use Rattle.definitions.specs.Bytes.{Records, read, blank_operation}
use Rattle.definitions.specs.Answers.{judged, waits_answer, planned, starts_answer, steps_answer}
use Rattle.definitions.specs.Clashes.{few_answer}
use Rattle.definitions.specs.Output.{listed, standplan}
use Rattle.definitions.specs.Price.{price_answer, price_report}
use Rattle.definitions.specs.Writer.{two_bytes_of, field_of, duration_of, operation_bytes, link_bytes, rising, sheet_bytes, parts}
use Rattle.definitions.specs.declared.Operation.{Operation}
use Rattle.definitions.specs.declared.Link.{Link}
use Rattle.demands.specs.Demands.{IsSheet}
use Rattle.demands.specs.Writing.{SameAnswers, StepsSent, none, plain, zero_kept, Short, fewer_steps, fewer_links, no_room, WrittenAgain}
use Rattle.demands.proofs.WritingOrder.{rising_stays}
use Rattle.demands.proofs.WritingBytes.{sheet_length}
use Rattle.demands.proofs.WritingFaults.{faultless}
use Rattle.demands.proofs.WritingRefusals.{write_for}
use Rattle.demands.proofs.Writing.{written_for}
use Rattle.demands.proofs.WritingFound.{SheetFound, sheet_found}

-- Each call works on what is read.
same_answers : (s t : List ℕ) → read s ≡ read t → SameAnswers s t
unfolding judged waits_answer planned starts_answer steps_answer few_answer price_answer listed standplan price_report
same_answers s t e = record {
  reads = e;
  judges = λ allow. rw e;
  waits = rw e;
  plans = λ allow table. rw e;
  starts = λ allow list out. rw e;
  steps = λ lent. rw e;
  clashes = λ list. rw e;
  prices = λ entries allow registers comparisons. rw e;
  prints = rw e;
  prints_price = rw e;
}

-- A step of duration 0 is written in one byte, so one that was sent with its field has two bytes more.
blank_length : length (operation_bytes blank_operation) ≡ 1
unfolding operation_bytes field_of duration_of
blank_length = refl

sent_length : {os : List Operation} {w : List ℕ} {kept : ℕ} → StepsSent os w kept → length w ≡ length (flat_map operation_bytes os) + 2 * kept
unfolding flat_map
sent_length none = refl
sent_length (plain {os} {w} o r) = omega (arith, length-append (operation_bytes o) w, length-append (operation_bytes o) (flat_map operation_bytes os), sent_length r)
sent_length (zero_kept {os} r) = omega (arith, length-append (operation_bytes blank_operation) (flat_map operation_bytes os), blank_length, sent_length r)

two_length : (x : ℕ) → length (two_bytes_of x) ≡ 2
unfolding two_bytes_of
two_length x = refl

pub written_again : (s : List ℕ) (q : Records) → IsSheet s q → WrittenAgain s q
written_again s q I = record {
  numbers = R.numbers;
  in_order = stays;
  accepts = λ buffer room. ((write_for n r q.steps q.pairs buffer).accepted (length (sheet_bytes q))).1 (rw whole (faultless R.passing), enough buffer room, ap (λ (p : Records). length (sheet_bytes p)) (sym whole));
  same = same;
  means = same_answers (sheet_bytes q) s (same.reads ∙ sym I.reads);
  never_longer = omega (arith, less);
  sent = record { step_bytes = R.step_bytes; kept = R.kept; steps = R.steps; bytes = R.sent; length_less = less };
}
  where
    n : ℕ
    n = length q.steps

    r : ℕ
    r = length q.pairs

    R : SheetFound q s
    R = sheet_found s q I

    -- All of the lists are the parts.
    whole : parts n r q.steps q.pairs ≡ q
    whole = rw (take-length q.steps, take-length q.pairs)

    enough : (buffer : List ℕ) → length (sheet_bytes q) ≤ length buffer → ¬ Short n r q.steps q.pairs buffer
    enough buffer room (fewer_steps h) = omega arith
    enough buffer room (fewer_links h) = omega arith
    enough buffer room (no_room h) = omega (arith, ap (λ (p : Records). length (sheet_bytes p)) whole)

    stays : rising q.pairs ≡ q.pairs
    stays = rising_stays q.pairs R.in_order

    same : IsSheet (sheet_bytes q) q
    same = rw stays at (written_for q R.numbers (faultless R.passing)).sheet

    less : length s ≡ length (sheet_bytes q) + 2 * R.kept
    less =
        let front = two_bytes_of (length q.pairs) in
        omega (arith, ap length R.sent, length-append front R.step_bytes, length-append (front ++ R.step_bytes) (flat_map link_bytes q.pairs), two_length (length q.pairs), sent_length R.steps, sheet_length q, ap (λ (ls : List Link). length (flat_map link_bytes ls)) stays)
