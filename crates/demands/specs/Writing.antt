-- Request L4, "A sheet writer": "Given steps and link records, write the sheet." What is promised of it, as statements about the definitions of the crate definitions (Writer.antt). Definitions alone: each
-- statement is proved in proofs/Demands.antt, by the theorem that its comment names. Quoted sentences are document 02's.
use Rattle.std.specs.Prelude.{◌≡◌, Bool, false, ◌⊎◌, ◌↔◌, ℕ, suc, ◌+◌, ◌*◌, ◌≤◌, ◌<◌, length, get_or, take, drop, None, Option, Some}
use mathlib.Core.List.{List, [], ◌∷◌, ◌++◌, flat_map, Memᴰ, Permᴰ}
use Rattle.definitions.specs.Limits.{most_steps, most_records, most_ticks, longest_sheet}
use Rattle.definitions.specs.Basics.{Outcome, given, refused}
use Rattle.definitions.specs.Bytes.{Records, read, blank_operation}
use Rattle.definitions.specs.Answers.{count_of, judged, waits_answer, planned, starts_answer, steps_answer}
use Rattle.definitions.specs.Clashes.{blank_link, few_answer}
use Rattle.definitions.specs.Writer.{two_bytes_of, operation_bytes, link_bytes, rising, sheet_bytes, parts, write_answer}
use Rattle.definitions.specs.Output.{standplan}
use Rattle.definitions.specs.Price.{price_answer, price_report}
use Rattle.definitions.specs.declared.Delay.TheVariants.{Fixed}
use Rattle.definitions.specs.declared.Operation.{Operation}
use Rattle.definitions.specs.declared.Link.{Link}
use Rattle.demands.specs.Demands.{IsSheet, Rising}

-- ## The words

-- Durations and fields of two bytes, as the types of the code have them: no other number can be written.
abbrev pub FieldFits : Option ℕ → Type 0
FieldFits b = (x : ℕ) → b ≡ Some x → x ≤ most_ticks

pub record StepNumbers (o : Operation) : Type 0 where
  pub duration : (x : ℕ) → o.delay ≡ Fixed x → x ≤ most_ticks
  pub least : FieldFits o.least

pub record LinkNumbers (l : Link) : Type 0 where
  pub minimum : FieldFits l.minimum
  pub maximum : FieldFits l.maximum
  pub gap : FieldFits l.gap
  pub latest : FieldFits l.latest

pub record Numbers (q : Records) : Type 0 where
  pub steps : (o : Operation) → Memᴰ o q.steps → StepNumbers o
  pub links : (l : Link) → Memᴰ l q.pairs → LinkNumbers l

-- The parts' faults. 2: N is 0 or more than 64. 3: R is more than 512.
abbrev pub BadCount : ℕ → Type 0
BadCount n = (n ≡ 0) ⊎ (most_steps < n)

abbrev pub TooMany : ℕ → Type 0
TooMany r = most_records < r

-- 4: step 0 is fixed, or has a least; a fixed step has a least; a record has no link at all; a record has a gap without after.
pub data BadMaps (q : Records) : Type 0 where
  source_fixed : (o : Operation) (os : List Operation) (x : ℕ) → q.steps ≡ o ∷ os → o.delay ≡ Fixed x → BadMaps q
  source_least : (o : Operation) (os : List Operation) (x : ℕ) → q.steps ≡ o ∷ os → o.least ≡ Some x → BadMaps q
  fixed_least : (o : Operation) (x y : ℕ) → Memᴰ o q.steps → o.delay ≡ Fixed x → o.least ≡ Some y → BadMaps q
  no_link : (l : Link) → Memᴰ l q.pairs → l.sequencing ≡ false → l.minimum ≡ None → l.maximum ≡ None → l.gap ≡ None → l.latest ≡ None → BadMaps q
  gap_alone : (l : Link) (x : ℕ) → Memᴰ l q.pairs → l.sequencing ≡ false → l.gap ≡ Some x → BadMaps q

-- 26: a record has an at most from the finish without after.
pub record LimitAlone (links : List Link) : Type 0 where
  pub link : Link
  pub member : Memᴰ link links
  pub not_after : link.sequencing ≡ false
  pub ticks : ℕ
  pub limit : link.latest ≡ Some ticks

-- 5: i or j of a record is N or more, or they are one.
pub record BadEnds (n : ℕ) (links : List Link) : Type 0 where
  pub link : Link
  pub member : Memᴰ link links
  pub ends : (n ≤ link.from) ⊎ (n ≤ link.to) ⊎ (link.from ≡ link.to)

-- "6 now means that a pair comes twice": at two places of the list.
pub record PairTwice (links : List Link) : Type 0 where
  pub first : ℕ
  pub second : ℕ
  pub apart : first < second
  pub inside : second < length links
  pub same_from : (get_or links first blank_link).from ≡ (get_or links second blank_link).from
  pub same_to : (get_or links first blank_link).to ≡ (get_or links second blank_link).to

-- No fault that comes before 4, before 26, before 5, before 6: in this order, each what is passed so far and one more.
pub record Before4 (n r : ℕ) : Type 0 where
  pub count : ¬ BadCount n
  pub few : ¬ TooMany r

pub record Before26 (n r : ℕ) (q : Records) : Type 0 where
  pub passed : Before4 n r
  pub maps : ¬ BadMaps q

pub record Before5 (n r : ℕ) (q : Records) : Type 0 where
  pub passed : Before26 n r q
  pub limits : ¬ LimitAlone q.pairs

pub record Before6 (n r : ℕ) (q : Records) : Type 0 where
  pub passed : Before5 n r q
  pub ends : ¬ BadEnds n q.pairs

-- No fault before 14.
pub record NoFault (n r : ℕ) (q : Records) : Type 0 where
  pub passed : Before6 n r q
  pub once : ¬ PairTwice q.pairs

-- "A short buffer is 14", and so are steps or records that are fewer than their count says.
pub data Short (n r : ℕ) (steps : List Operation) (links : List Link) (buffer : List ℕ) : Type 0 where
  fewer_steps : length steps < n → Short n r steps links buffer
  fewer_links : length links < r → Short n r steps links buffer
  no_room : length buffer < length (sheet_bytes (parts n r steps links)) → Short n r steps links buffer

-- ## The order of the records

-- "Records may come in any order and are written rising": by i, then by j.
abbrev pub PairBefore : Link → Link → Type 0
PairBefore l m = (l.from < m.from) ⊎ ((l.from ≡ m.from) × (l.to < m.to))

-- What is written are the same records, each as often. They rise where no pair comes twice, and no other list has these records and rises; records that rise are written as they come. Proof: records_rising.
pub record RisingFor (links : List Link) : Type 0 where
  pub same_records : Permᴰ (rising links) links
  pub same_members : (l : Link) → Memᴰ l (rising links) ↔ Memᴰ l links
  pub same_count : length (rising links) ≡ length links
  pub in_order : ¬ PairTwice links → Rising PairBefore (rising links)
  pub only : ¬ PairTwice links → (ls : List Link) → Rising PairBefore ls → ((l : Link) → Memᴰ l ls ↔ Memᴰ l links) → ls ≡ rising links
  pub stays : Rising PairBefore links → rising links ≡ links

abbrev pub RecordsRising : Type 0
RecordsRising = (links : List Link) → RisingFor links

-- "Records may come in any order": where the first r of two lists are the same records, each as often, the verdict is the same and the same bytes are in the buffer. Proof: any_order.
abbrev pub AnyOrder : Type 0
AnyOrder = (n r : ℕ) (steps : List Operation) (links links' : List Link) (buffer : List ℕ) → Permᴰ (take r links) (take r links') → write_answer n r steps links buffer ≡ write_answer n r steps links' buffer

-- ## Written, then read

-- "What is written and then read gives the same steps and, rising, the same records". It is never longer than the longest sheet. Proof: written_read.
abbrev pub in_rising_order : Records → Records
in_rising_order q = record { steps = q.steps; pairs = rising q.pairs }

pub record WrittenFor (q : Records) : Type 0 where
  pub sheet : IsSheet (sheet_bytes q) (in_rising_order q)
  pub longest : length (sheet_bytes q) ≤ longest_sheet

-- Of the call that writes, which leaves the buffer as `after`: k bytes are written and are a sheet, so that no refusal of reading applies to them; those past it stay as lent.
pub record WrittenCall (n r : ℕ) (steps : List Operation) (links : List Link) (buffer after : List ℕ) (k : ℕ) : Type 0 where
  pub sheet : IsSheet (take k after) (in_rising_order (parts n r steps links))
  pub count : count_of (parts n r steps links) ≡ n
  pub records : length (rising (take r links)) ≡ r
  pub past : drop k after ≡ drop k buffer
  pub size : length after ≡ length buffer
  pub longest : k ≤ longest_sheet

pub record WrittenRead : Type 0 where
  pub of_parts : (q : Records) → Numbers q → NoFault (count_of q) (length q.pairs) q → WrittenFor q
  pub of_call : (n r : ℕ) (steps : List Operation) (links : List Link) (buffer : List ℕ) (k : ℕ) → Numbers (parts n r steps links)
      → (write_answer n r steps links buffer).verdict ≡ given k → WrittenCall n r steps links buffer (write_answer n r steps links buffer).numbers k

-- ## Read, then written

-- Two sheets mean the same: every call that is given one answers as it does for the other.
pub record SameAnswers (s t : List ℕ) : Type 0 where
  pub reads : read s ≡ read t
  pub judges : (allow : Bool) → judged s allow ≡ judged t allow
  pub waits : waits_answer s ≡ waits_answer t
  pub plans : (allow : Bool) (table : List ℕ) → planned s allow table ≡ planned t allow table
  pub starts : (allow : Bool) (list out : List ℕ) → starts_answer s allow list out ≡ starts_answer t allow list out
  pub steps : (lent : List ℕ) → steps_answer s lent ≡ steps_answer t lent
  pub clashes : (list : List ℕ) → few_answer s list ≡ few_answer t list
  pub prices : (entries : List ℕ) (allow : Bool) (registers comparisons : List ℕ) → price_answer entries s allow registers comparisons ≡ price_answer entries t allow registers comparisons
  pub prints : standplan s ≡ standplan t
  pub prints_price : price_report s ≡ price_report t

-- The bytes of step records: each as it is written, but that a fixed duration of 0 may have been sent with its field, as 02 00 00. `kept` counts those.
pub data StepsSent : List Operation → List ℕ → ℕ → Type 0 where
  none : StepsSent [] [] 0
  plain : {os : List Operation} {w : List ℕ} {kept : ℕ} (o : Operation) → StepsSent os w kept → StepsSent (o ∷ os) (operation_bytes o ++ w) kept
  zero_kept : {os : List Operation} {w : List ℕ} {kept : ℕ} → StepsSent os w kept → StepsSent (blank_operation ∷ os) (2 ∷ 0 ∷ 0 ∷ w) (suc kept)

-- All the bytes of a sheet. "A fixed duration of 0 is always left out; any other field is kept, 0 or not."
pub record Sent (q : Records) (s : List ℕ) : Type 0 where
  pub step_bytes : List ℕ
  pub kept : ℕ
  pub steps : StepsSent q.steps step_bytes kept
  pub bytes : s ≡ length q.steps ∷ two_bytes_of (length q.pairs) ++ step_bytes ++ flat_map link_bytes q.pairs
  pub length_less : length s ≡ length (sheet_bytes q) + 2 * kept

-- "A sheet read and written again means the same and is never longer": its parts have no fault, and their records rise already. It is shorter by the two bytes of each fixed duration that was sent as 0. Proof: read_written.
pub record WrittenAgain (s : List ℕ) (q : Records) : Type 0 where
  pub numbers : Numbers q
  pub in_order : rising q.pairs ≡ q.pairs
  pub accepts : (buffer : List ℕ) → length (sheet_bytes q) ≤ length buffer → (write_answer (count_of q) (length q.pairs) q.steps q.pairs buffer).verdict ≡ given (length (sheet_bytes q))
  pub same : IsSheet (sheet_bytes q) q
  pub means : SameAnswers (sheet_bytes q) s
  pub never_longer : length (sheet_bytes q) ≤ length s
  pub sent : Sent q s

abbrev pub ReadWritten : Type 0
ReadWritten = (s : List ℕ) (q : Records) → IsSheet s q → WrittenAgain s q

-- ## What is turned away

-- "Turned away: the parts' faults are 2 to 6, in that order, where 6 now means that a pair comes twice; a short buffer is 14." 26 comes right after 4. Each is given exactly if its condition holds and no earlier
-- one does; no other is given; and a refusal leaves the buffer as lent. The call has this verdict, and leaves the buffer as `after`. Proof: write_exactly.
pub record WriteFor (n r : ℕ) (steps : List Operation) (links : List Link) (buffer : List ℕ) (verdict : Outcome ℕ) (after : List ℕ) : Type 0 where
  pub refused_2 : (verdict ≡ refused 2) ↔ BadCount n
  pub refused_3 : (verdict ≡ refused 3) ↔ ((¬ BadCount n) × TooMany r)
  pub refused_4 : (verdict ≡ refused 4) ↔ (Before4 n r × BadMaps (parts n r steps links))
  pub refused_26 : (verdict ≡ refused 26) ↔ (Before26 n r (parts n r steps links) × LimitAlone (take r links))
  pub refused_5 : (verdict ≡ refused 5) ↔ (Before5 n r (parts n r steps links) × BadEnds n (take r links))
  pub refused_6 : (verdict ≡ refused 6) ↔ (Before6 n r (parts n r steps links) × PairTwice (take r links))
  pub refused_14 : (verdict ≡ refused 14) ↔ (NoFault n r (parts n r steps links) × Short n r steps links buffer)
  pub accepted : (k : ℕ) → (verdict ≡ given k) ↔ (NoFault n r (parts n r steps links) × (¬ Short n r steps links buffer) × (k ≡ length (sheet_bytes (parts n r steps links))))
  pub no_other : (k : ℕ) → verdict ≡ refused k → ((2 ≤ k) × (k ≤ 6)) ⊎ (k ≡ 26) ⊎ (k ≡ 14)
  pub numbers : (k : ℕ) → verdict ≡ given k → after ≡ sheet_bytes (parts n r steps links) ++ drop k buffer
  pub untouched : (k : ℕ) → verdict ≡ refused k → after ≡ buffer

abbrev pub WriteExactly : Type 0
WriteExactly = (n r : ℕ) (steps : List Operation) (links : List Link) (buffer : List ℕ) → WriteFor n r steps links buffer (write_answer n r steps links buffer).verdict (write_answer n r steps links buffer).numbers
