-- Request L14, "The few records that clash": the part of an impossible sheet's link records that stays when from the last to the first each one is dropped that is not needed.
use Rattle.std.specs.Prelude.{Bool, true, false, cond, not, ◌||◌, List, [], ◌∷◌, ◌++◌, map, ℕ, zero, suc, eqb, length, get_or, None}
use Rattle.definitions.specs.Basics.{tabulate, Outcome, given, refused, refuse_if}
use Rattle.definitions.specs.Bytes.{Records, read}
use Rattle.definitions.specs.Answers.{closes_circle, count_of, edges_of, judge_records, Written, written, too_short}
use Rattle.definitions.specs.declared.Link.{Link}

-- "Refused as 10 or 11": impossible.
unfoldable pub is_impossible : Outcome ℕ → Bool
is_impossible (given v) = false
is_impossible (refused k) = eqb k 10 || eqb k 11

-- Whether a sheet is. 12, which turns on whether waits are allowed, comes after both.
unfoldable pub impossible : Records → Bool
impossible q = is_impossible (judge_records q true)

-- What stands where no record does.
abbrev pub blank_link : Link
blank_link = record { from = 0; to = 0; sequencing = false; minimum = None; maximum = None; gap = None; latest = None }

-- The numbers below k, rising: the records before record k.
abbrev pub numbers_below : ℕ → List ℕ
numbers_below k = tabulate (λ i. i) k

-- The part of a sheet that has all its steps and the records with these numbers, counted from 0. "L3's links are worked out afresh for each part": its links are completed as those of any sheet.
unfoldable pub part_of : Records → List ℕ → Records
part_of q ks = record { steps = q.steps; pairs = map (λ k. get_or q.pairs k blank_link) ks }

-- "From the last record to the first, drop each one whose loss leaves the sheet still refused as 10 or 11." The records below k are still to be tried, the last of them first; of those tried, the ones
-- with the numbers `stay` stay.
unfoldable pub drop_records : Records → ℕ → List ℕ → List ℕ
drop_records q zero stay = stay
drop_records q (suc k) stay = drop_records q k (cond (impossible (part_of q (numbers_below k ++ stay))) stay (k ∷ stay))

-- "What stays is reported as record numbers, counted from 0, rising."
unfoldable pub few : Records → List ℕ
few q = drop_records q (length q.pairs) []

-- Asked for: the refusals of reading and 8, then 31, "a sheet not refused as 10 or 11", then 14, "a list shorter than the report". Else the report stands at the front of the lent list, and its count is given.
unfoldable pub few_verdict : Records → List ℕ → Outcome ℕ
few_verdict q list =
    refuse_if (closes_circle (count_of q) (edges_of q)) 8
    (refuse_if (not (impossible q)) 31
    (refuse_if (too_short list (length (few q))) 14
    (given (length (few q)))))

unfoldable pub few_read : Outcome Records → List ℕ → Written
few_read (given q) list = record { verdict = few_verdict q list; numbers = written (few_verdict q list) (few q) list }
few_read (refused k) list = record { verdict = refused k; numbers = list }

unfoldable pub few_answer : List ℕ → List ℕ → Written
few_answer s list = few_read (read s) list
