-- "The stand sheet, whole": what `standplan` prints.
use Rattle.std.specs.Prelude.{Bool, true, cond, ℕ, zero, suc, ◌+◌, ◌/◌, ◌%◌, ltb, length}
use mathlib.Core.List.{List, [], ◌∷◌, ◌++◌, map, flat_map}
use Rattle.definitions.specs.Basics.{tabulate, select_below, Outcome, given, refused, when_given}
use Rattle.definitions.specs.Bytes.{Records, read}
use Rattle.definitions.specs.Links.{Edge}
use Rattle.definitions.specs.Waits.{WaitPair, wait_list}
use Rattle.definitions.specs.Plan.{offset, decides}
use Rattle.definitions.specs.Answers.{count_of, leasts_of, edges_of, serialized_of, judge_records}

-- A start line: step, deciding step, offset, in rising order of the first two.
pub record StartLine : Type 0 where
  pub step : ℕ
  pub decider : ℕ
  pub ticks : ℕ

unfoldable pub lines_of : ℕ → (ℕ → ℕ) → List Edge → ℕ → List StartLine
lines_of n least es v = map (λ a. record { step = v; decider = a; ticks = offset n least es a v }) (select_below (λ a. decides n least es a v) n)

unfoldable pub start_lines : ℕ → (ℕ → ℕ) → List Edge → List StartLine
start_lines n least es = flat_map (lines_of n least es) (tabulate (λ v. v) n)

-- What is printed of an accepted sheet.
pub record Listing : Type 0 where
  pub verdict : ℕ
  pub waits : List WaitPair
  pub starts : List StartLine

unfoldable pub list_records : Records → Bool → Outcome Listing
list_records q allow =
    when_given (judge_records q allow)
    (λ v. given (record { verdict = v; waits = wait_list (count_of q) (edges_of q); starts = start_lines (count_of q) (leasts_of q) (serialized_of q) }))

unfoldable pub listed : List ℕ → Bool → Outcome Listing
listed s allow = when_given (read s) (λ q. list_records q allow)

-- A number in decimal digits; numbers of 32 bits have at most ten.
unfoldable pub digits : ℕ → ℕ → List ℕ
digits zero n = []
digits (suc k) n = cond (ltb n 10) [] (digits k (n / 10)) ++ (48 + n % 10) ∷ []

unfoldable pub decimal : ℕ → List ℕ
decimal n = digits 10 n

-- A space, then a number; the end of a line.
unfoldable pub field : ℕ → List ℕ
field n = 32 ∷ decimal n

abbrev pub newline : List ℕ
newline = 10 ∷ []

-- `verdict`, `waits`, `wait`, `start` and `refused`.
abbrev pub word_verdict : List ℕ
word_verdict = 118 ∷ 101 ∷ 114 ∷ 100 ∷ 105 ∷ 99 ∷ 116 ∷ []

abbrev pub word_waits : List ℕ
word_waits = 119 ∷ 97 ∷ 105 ∷ 116 ∷ 115 ∷ []

abbrev pub word_wait : List ℕ
word_wait = 119 ∷ 97 ∷ 105 ∷ 116 ∷ []

abbrev pub word_start : List ℕ
word_start = 115 ∷ 116 ∷ 97 ∷ 114 ∷ 116 ∷ []

abbrev pub word_refused : List ℕ
word_refused = 114 ∷ 101 ∷ 102 ∷ 117 ∷ 115 ∷ 101 ∷ 100 ∷ []

unfoldable pub wait_text : WaitPair → List ℕ
wait_text w = word_wait ++ field w.anchor ++ field w.target ++ newline

unfoldable pub start_text : StartLine → List ℕ
start_text l = word_start ++ field l.step ++ field l.decider ++ field l.ticks ++ newline

-- Verdict, the count of waits and a line for each, then the start lines; a refusal prints only `refused` and its number.
unfoldable pub listing_text : Outcome Listing → List ℕ
listing_text (given l) = word_verdict ++ field l.verdict ++ newline ++ word_waits ++ field (length l.waits) ++ newline ++ flat_map wait_text l.waits ++ flat_map start_text l.starts
listing_text (refused k) = word_refused ++ field k ++ newline

unfoldable pub standplan : List ℕ → List ℕ
standplan s = listing_text (listed s true)
