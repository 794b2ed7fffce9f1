-- The writer is handed no more parts than the counts say and than there can be: its answer is that for all that is there.
use mathlib.Core.Path.{◌≡◌, sym, ap, ap₂, ◌∙◌}
use Rattle.definitions.specs.Numbers.{Tally}
use mathlib.Core.Bool.{Bool, true, false, not, ◌&&◌}
use mathlib.Core.Logic.{◌⊎◌, inl, inr}
use mathlib.Core.List.{List}
use Prim.Native.Nat.{ℕ, ◌≤◌, ◌<◌, min}
use native.Mathlib.Decide.{dec_lt}
use native.Mathlib.Omega.{arith}
use lib.Dec.{leb}
use lib.ListN.{length, take}
use lib.Seq.{take_all, take-take}
use borrow.Author.Tests.{lt-leb, lt-ltb}
use Rattle.definitions.specs.Answers.{Written, written}
use Rattle.definitions.specs.Basics.{Outcome, refused}
use Rattle.definitions.specs.Bytes.{Records}
use Rattle.definitions.specs.Limits.{most_records, most_steps}
use Rattle.definitions.specs.Writer.{parts, sheet_bytes, write_answer, write_verdict}
use Rattle.definitions.specs.declared.Link.{Link}
use Rattle.definitions.specs.declared.Operation.{Operation}
use Rattle.laws.proofs.Bools.{bool_cases}
use Rattle.laws.proofs.Outcomes.{passes_by, stops_at}
use Rattle.write_sheet.specs.Written.{WriteReturned}

-- The first n, of as many as are there.
cut : {A : Type 0} (n most : ℕ) (l : List A) → n ≤ most → take n (take (min (min n most) (length l)) l) ≡ take n l
cut n most l b = go (dec_lt (length l) n)
  where
    go : Dec (length l < n) → take n (take (min (min n most) (length l)) l) ≡ take n l
    go (yes c) = ap (take n) (take_all (min (min n most) (length l)) l (omega arith))
    go (no c) =
        let e : min (min n most) (length l) ≡ n = omega arith in
        ap (λ (k : ℕ). take n (take k l)) e ∙ take-take n n l (omega arith)

module _ (n r : ℕ) (buffer : List ℕ) where
  -- Too many steps, or too many records: the verdict asks for no parts.
  record Stops : Type 0 where
    number : ℕ
    always : (q : Records) → write_verdict n r q buffer ≡ refused number

  stops_steps : most_steps < n → Stops
  unfolding write_verdict
  stops_steps h = record { number = 2; always = λ q. stops_at 2 _ (many (bool_cases (leb 1 n))) }
    where
      many : (leb 1 n ≡ true) ⊎ (leb 1 n ≡ false) → not (leb 1 n && leb n most_steps) ≡ true
      many (inl t) = ap₂ (λ (a b : Bool). not (a && b)) t (lt-leb n most_steps h)
      many (inr f) = ap (λ (a : Bool). not (a && leb n most_steps)) f

  stops_links : most_records < r → Stops
  unfolding write_verdict
  stops_links h = go (bool_cases (not (leb 1 n && leb n most_steps)))
    where
      go : (not (leb 1 n && leb n most_steps) ≡ true) ⊎ (not (leb 1 n && leb n most_steps) ≡ false) → Stops
      go (inl t) = record { number = 2; always = λ q. stops_at 2 _ t }
      go (inr f) = record { number = 3; always = λ q. passes_by 2 _ f ∙ stops_at 3 _ (lt-ltb most_records r h) }

  -- The answer as it depends on the parts.
  abbrev answer_of : Records → Written
  answer_of q = record { verdict = write_verdict n r q buffer; numbers = written (write_verdict n r q buffer) (sheet_bytes q) buffer }

  stopped : Stops → (q p : Records) → answer_of q ≡ answer_of p
  unfolding written
  stopped s q p = refusal q ∙ sym (refusal p)
    where
      refusal : (q : Records) → answer_of q ≡ record { verdict = refused s.number; numbers = buffer }
      refusal q = ap (λ (v : Outcome ℕ). record { verdict = v; numbers = written v (sheet_bytes q) buffer }) (s.always q)

  module _ (steps : List Operation) (links : List Link) where
    abbrev there_steps : List Operation
    there_steps = take (min (min n most_steps) (length steps)) steps

    abbrev there_links : List Link
    there_links = take (min (min r most_records) (length links)) links

    same_answer : answer_of (parts n r there_steps there_links) ≡ answer_of (parts n r steps links)
    same_answer = go (dec_lt most_steps n) (dec_lt most_records r)
      where
        go : Dec (most_steps < n) → Dec (most_records < r) → answer_of (parts n r there_steps there_links) ≡ answer_of (parts n r steps links)
        go (yes h) k = stopped (stops_steps h) (parts n r there_steps there_links) (parts n r steps links)
        go (no h) (yes k) = stopped (stops_links k) (parts n r there_steps there_links) (parts n r steps links)
        go (no h) (no k) = ap₂ (λ (os : List Operation) (ls : List Link). answer_of (record { steps = os; pairs = ls })) (cut n most_steps steps (omega arith)) (cut r most_records links (omega arith))

    pub cut_answer : write_answer n r (take (min (min n most_steps) (length steps)) steps) (take (min (min r most_records) (length links)) links) buffer ≡ write_answer n r steps links buffer
    unfolding write_answer
    cut_answer = same_answer

-- What was returned for the parts that were decoded is the answer for all.
pub returned_all : {n r a b : ℕ} {x steps : List Operation} {y links : List Link} {buffer : List ℕ} {t : Tally} {after : List ℕ} → WriteReturned n r x y buffer t after → x ≡ take a steps → y ≡ take b links → a ≡ min (min n most_steps) (length steps) → b ≡ min (min r most_records) (length links) → WriteReturned n r steps links buffer t after
returned_all {n} {r} {a} {b} {x} {steps} {y} {links} {buffer} W e f g h =
    let all : write_answer n r x y buffer ≡ write_answer n r steps links buffer =
    ap₂ (λ (os : List Operation) (ls : List Link). write_answer n r os ls buffer) (e ∙ ap (λ (k : ℕ). take k steps) g) (f ∙ ap (λ (k : ℕ). take k links) h) ∙ cut_answer n r buffer steps links in
    record { verdict = W.verdict ∙ ap (λ (w : Written). w.verdict) all; numbers = W.numbers ∙ ap (λ (w : Written). w.numbers) all }
