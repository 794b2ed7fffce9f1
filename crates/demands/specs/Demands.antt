-- The demands 2 and 3 on the planner, each as a statement about sheets as bytes. Definitions alone: each statement is proved in proofs/Demands.antt, by the theorem that its comment names.
--
-- 2. Start sets, waits, offsets, deciding steps and start times are those of document 01. An open step is listed exactly if some durations need it.
-- 3. A well-formed sheet is called impossible exactly when some list of durations leaves no start times that keep every link. For every accepted sheet and every list our starts keep every link and
--    wait, and nobody is earlier: not a rival who knows every duration beforehand and gives any start times that keep every link (no waits needed), nor one who picks any sound sheet with these
--    steps, these links and further after or at-least links, and any start times that keep it (waits added).
-- L11. On sheets with a limit from the finish of an open step, nobody without foresight is earlier; refused 28 exactly if, not being 10 or 11, there is no such rival.
-- L1. All this holds of after links with a gap, and sheets without one plan as before.
-- L3. All this is read on the completed sheet; 9 never occurs, and sheets on which nothing is added plan as before.
-- L6. All this is said of the durations that respect the leasts, and sheets without one plan as before.
-- L5. The price counts what the plan has: specs/Pricing.antt, after this file.
-- L14. The records of an impossible sheet that are reported are impossible together, and without any one of them they are not: specs/Clashes.antt, after this file.
--
-- Words that are not defined here are those of the crate definitions, in the words of document 01: Bytes, Links, Anchors, Waits, Plan, Rival, Answers, to be read in this order. Quoted sentences are
-- document 01's, and document 02's where they speak of requests L11, L1, L3 and L6.
-- Start times and durations are functions from steps to whole numbers, with no largest one: a hand may take any time at all that is not below its least. Lists of durations are a case of them.
use Rattle.std.specs.Prelude.{◌≡◌, Bool, true, false, cond, ◌⊎◌, ◌≢◌, ◌↔◌, ℕ, suc, ◌+◌, ◌-◌, ◌*◌, ◌^◌, ◌≤◌, ◌<◌, length, get_or, take, drop, replicate}
use mathlib.Core.List.{List, [], ◌∷◌, ◌++◌, map, Memᴰ}
use Rattle.definitions.specs.Limits.{most_steps, most_duration, most_offset, most_gapless_offset, most_start, longest_sheet}
use Rattle.definitions.specs.Basics.{largest, test_bit, given, refused}
use Rattle.definitions.specs.Bytes.{Records, operation_map, link_map, read}
use Rattle.definitions.specs.Links.{Constraint, sequencing, finish_maximum, constraints, links_of, delay_at, Respects, no_leasts, Keeps, KeepsAll, Edge, Graph, members, Forward, Walk, Joined, After, UsableFrom, usable}
use Rattle.definitions.specs.Rounds.{cell, reaches, after_reaches}
use Rattle.definitions.specs.Anchors.{InAnchorSet, in_anchor_set, WellPosed, well_posed}
use Rattle.definitions.specs.Waits.{Wait, WaitPair, wait_list, wait_maps, wait_count, wait_pair}
use Rattle.definitions.specs.Plan.{Offset, offset, start_times, overrides, decides, plan_row, plan_table, row_part, undecided, delay_wrong, delays_wrong, delays}
use Rattle.definitions.specs.Rival.{Extension, Lasts, DelayAssignment, DynamicStrategy}
use Rattle.definitions.specs.Answers.{closes_circle, count_of, leasts_of, edges_of, serialized_of, judge_edges, judged, waits_answer, planned, starts_answer, beginning, steps_answer}
use Rattle.definitions.specs.Output.{StartLine, start_lines, listed, standplan}
use Rattle.definitions.specs.Price.{price_report}
use Rattle.definitions.specs.Worked.{Worked, worked_sheets}
use Rattle.definitions.specs.declared.Delay.TheVariants.{Open, Fixed}
use Rattle.theory.specs.Counts.{standing_bits}
use Rattle.theory.specs.Graphs.{Carries, Entered, Entry, Schedule}
use Rattle.demands.specs.Gapless.{gapless_map, gapless_read, gapless_edges_of}
use Rattle.demands.specs.Leastless.{leastless_map, leastless_read, leastless_edges_of, leastless_serialized, leastless_offset, leastless_overrides, leastless_wrong}
use Rattle.demands.specs.Entered.{sent_edges, judge_with_9}

-- ## The words

-- Bytes.
abbrev pub Bytes : List ℕ → Type 0
Bytes s = (b : ℕ) → Memᴰ b s → b < 256

-- The refusals of reading: 1 to 7, and 26 of request L11. A sheet that none of these nor 8 and 9 applies to is well-formed.
abbrev pub FromReading : ℕ → Type 0
FromReading k = (k ≤ 7) ⊎ (k ≡ 26)

abbrev pub FromForm : ℕ → Type 0
FromForm k = (k ≤ 9) ⊎ (k ≡ 26)

-- The bytes s are a sheet with the records q: no refusal of reading applies.
pub record IsSheet (s : List ℕ) (q : Records) : Type 0 where
  pub bytes : Bytes s
  pub reads : read s ≡ given q

-- "A sheet that passes 1 to 9 is well-formed." 9 is never given (request L3).
pub record WellFormed (s : List ℕ) (q : Records) : Type 0 where
  pub sheet : IsSheet s q
  pub no_circle : closes_circle (count_of q) (edges_of q) ≡ false

-- "Accepted means that no refusal down to 12 applies", nor 26 or 28. v is the verdict; allow says whether the caller allows waits.
pub record Accepted (s : List ℕ) (allow : Bool) (q : Records) (v : ℕ) : Type 0 where
  pub sheet : IsSheet s q
  pub accepts : judged s allow ≡ given v

-- Start times t that keep every link of the sheet, completed, under the durations d. What d says of step 0 and of fixed steps does not matter here: the duration of step 0 counts as 0, that of a fixed step is
-- its own.
abbrev pub KeepsLinks : Records → (ℕ → ℕ) → (ℕ → ℕ) → Type 0
KeepsLinks q d t = KeepsAll q.steps (links_of q) d t

-- Durations that respect the leasts of the sheet; that of step 0 is 0. Earliest starts and impossible sheets are judged over these.
pub record Durations (q : Records) (d : ℕ → ℕ) : Type 0 where
  pub source : d 0 ≡ 0
  pub respects : Respects q.steps d

-- What each step lasts past its least: the edges hold the leasts.
abbrev pub extras : Records → (ℕ → ℕ) → ℕ → ℕ
extras q d a = d a - leasts_of q a

-- The edges of a sheet ask of start times what its links do, for durations that respect the leasts; offsets and start sets are taken over the edges. Proof: edges_meant.
abbrev pub EdgesMeant : Type 0
EdgesMeant = (q : Records) (d t : ℕ → ℕ) → Respects q.steps d → KeepsLinks q d t ↔ Schedule (members (edges_of q)) (extras q d) t

-- The durations d leave no start times.
abbrev pub NoStarts : Records → (ℕ → ℕ) → Type 0
NoStarts q d = (t : ℕ → ℕ) → ¬ KeepsLinks q d t

-- "A list of durations has N numbers of 32 bits, each at most 16,777,215, and 0 for step 0 and fixed steps."
pub record IsDelayList (q : Records) (list : List ℕ) : Type 0 where
  pub size : length list ≡ count_of q
  pub within : delays_wrong q.steps list ≡ false

-- What the test for refusal 13 says: document 01's words, and "A list entry below it is 13." An entry that is not there counts as 0, and is not below a least. Proof: lists_meant.
pub record WithinLimits (q : Records) (list : List ℕ) : Type 0 where
  pub most : (i : ℕ) → i < count_of q → delays list i ≤ most_duration
  pub source : delays list 0 ≡ 0
  pub fixed : (i ticks : ℕ) → i < count_of q → delay_at q.steps i ≡ Fixed ticks → delays list i ≡ 0
  pub respects : (i : ℕ) → i < count_of q → i < length list → leasts_of q i ≤ delays list i

abbrev pub ListsMeant : Type 0
ListsMeant = (s : List ℕ) (q : Records) → IsSheet s q → (list : List ℕ) → (delays_wrong q.steps list ≡ false) ↔ WithinLimits q list

-- Some list of durations leaves none.
pub record SomeListLeavesNone (q : Records) : Type 0 where
  pub list : List ℕ
  pub allowed : IsDelayList q list
  pub none : NoStarts q (delays list)

-- The sheet's start sets, offsets, deciding sets and our starts, with its waits in.
abbrev pub in_start_set : Records → ℕ → ℕ → Bool
in_start_set q a v = in_anchor_set (count_of q) (serialized_of q) a v

abbrev pub sheet_offset : Records → ℕ → ℕ → ℕ
sheet_offset q a v = offset (count_of q) (leasts_of q) (serialized_of q) a v

abbrev pub sheet_decides : Records → ℕ → ℕ → Bool
sheet_decides q a v = decides (count_of q) (leasts_of q) (serialized_of q) a v

abbrev pub our_start : Records → (ℕ → ℕ) → ℕ → ℕ
our_start q d v = cell (start_times (count_of q) (leasts_of q) (serialized_of q) d) v

-- start(a) + duration(a) + offset of v for a.
abbrev pub term : Records → (ℕ → ℕ) → ℕ → ℕ → ℕ
term q d v a = our_start q d a + d a + sheet_offset q a v

abbrev pub sheet_waits : Records → List WaitPair
sheet_waits q = wait_list (count_of q) (edges_of q)

-- "A wait is kept as an after link." "Waits have gap 0".
abbrev pub wait_link : WaitPair → Constraint
wait_link w = sequencing w.anchor w.target 0

-- With the waits put in as after links.
abbrev pub links_and_waits : Records → List Constraint
links_and_waits q = links_of q ++ map wait_link (sheet_waits q)

-- No limit counts from the finish of an open step other than step 0: a sheet without request L11, but for such limits on step 0 and on fixed steps.
abbrev pub NoLateLinks : Records → Type 0
NoLateLinks q = (i j u : ℕ) → Memᴰ (finish_maximum i j u) (links_of q) → ¬ Lasts q.steps i

-- ## Demand 3

-- "10. With all open durations 0, no start times keep every link. 11. Not 10, yet some list of durations leaves none." "Impossible means 10 or 11." "Where the papers take open durations as 0,
-- they now take the least". And where a sheet is not impossible, all durations that respect the leasts leave start times, those past a list's limit too. Proof: impossible_exactly.
pub record ImpossibleFor (s : List ℕ) (allow : Bool) (q : Records) : Type 0 where
  pub refused_10 : (judged s allow ≡ refused 10) ↔ NoStarts q (leasts_of q)
  pub refused_11 : (judged s allow ≡ refused 11) ↔ ((judged s allow ≢ refused 10) × SomeListLeavesNone q)
  pub impossible : ((judged s allow ≡ refused 10) ⊎ (judged s allow ≡ refused 11)) ↔ SomeListLeavesNone q
  pub otherwise : judged s allow ≢ refused 10 → judged s allow ≢ refused 11 → (d : ℕ → ℕ) → Durations q d → (t : ℕ → ℕ) × KeepsLinks q d t

abbrev pub ImpossibleExactly : Type 0
ImpossibleExactly = (s : List ℕ) (allow : Bool) (q : Records) → WellFormed s q → ImpossibleFor s allow q

-- The refusals 1 to 7 and 26 are those of reading the bytes, and reading gives no others. So a sheet is well-formed exactly if no refusal from 1 to 9 and not 26 is given. Proofs: read_exactly,
-- well_formed_exactly.
abbrev pub ReadExactly : Type 0
ReadExactly = (s : List ℕ) → Bytes s → (allow : Bool) (k : ℕ) → (read s ≡ refused k) ↔ ((judged s allow ≡ refused k) × FromReading k)

abbrev pub WellFormedExactly : Type 0
WellFormedExactly = (s : List ℕ) → Bytes s → (allow : Bool) → ((q : Records) × WellFormed s q) ↔ ((k : ℕ) → FromForm k → judged s allow ≢ refused k)

-- "8. Forward links close a circle." "9 never occurs any more": every step of the completed sheet then has a forward chain from step 0. "12. Waits are needed and the caller did not allow them." "Verdict 0 is sound, 1 sound with waits."
-- "28, the waits close a circle of forward links, or leave no start times with each open step at its least, after 11". "Each refusal is given when its condition holds and no earlier one does, and only
-- then." Proof: judged_exactly.
abbrev pub ForwardCircle : List Edge → Type 0
ForwardCircle es = (x : ℕ) × (k : ℕ) × (g : ℕ) × (l : ℕ) × Walk (Forward (members es)) x x (suc k) g l

abbrev pub Circle : Records → Type 0
Circle q = ForwardCircle (edges_of q)

abbrev pub Sound : Records → Type 0
Sound q = WellPosed (members (edges_of q))

pub data WaitsClash (q : Records) : Type 0 where
  circle : ForwardCircle (serialized_of q) → WaitsClash q
  no_times : ((t : ℕ → ℕ) → ¬ KeepsAll q.steps (links_and_waits q) (leasts_of q) t) → WaitsClash q

pub record JudgedFor (s : List ℕ) (allow : Bool) (q : Records) : Type 0 where
  pub refused_8 : (judged s allow ≡ refused 8) ↔ Circle q
  pub never_9 : judged s allow ≢ refused 9
  pub reached : ¬ Circle q → (v : ℕ) → v < count_of q → Joined (Forward (members (edges_of q))) 0 v
  pub well_formed : WellFormed s q ↔ (¬ Circle q)
  pub refused_28 : (judged s allow ≡ refused 28) ↔ (WellFormed s q × (¬ SomeListLeavesNone q) × WaitsClash q)
  pub refused_12 : (judged s allow ≡ refused 12) ↔ (WellFormed s q × (¬ SomeListLeavesNone q) × (¬ WaitsClash q) × (¬ Sound q) × (allow ≡ false))
  pub verdict_0 : (judged s allow ≡ given 0) ↔ (WellFormed s q × (¬ SomeListLeavesNone q) × Sound q)
  pub verdict_1 : (judged s allow ≡ given 1) ↔ (WellFormed s q × (¬ SomeListLeavesNone q) × (¬ WaitsClash q) × (¬ Sound q) × (allow ≡ true))

abbrev pub JudgedExactly : Type 0
JudgedExactly = (s : List ℕ) (allow : Bool) (q : Records) → IsSheet s q → JudgedFor s allow q

-- "From each call that judges, lists waits, plans or works out starts": the refusals but 13 and 14 are the same in each. Whoever lists waits allows them. Proof: each_call_refuses.
pub record SameRefusal (s : List ℕ) (allow : Bool) (k : ℕ) : Type 0 where
  pub waits : ((waits_answer s).verdict ≡ refused k) ↔ (judged s true ≡ refused k)
  pub plan : (table : List ℕ) → ((planned s allow table).verdict ≡ refused k) ↔ (judged s allow ≡ refused k)
  pub starts : (list out : List ℕ) → ((starts_answer s allow list out).verdict ≡ refused k) ↔ (judged s allow ≡ refused k)

abbrev pub EachCallRefuses : Type 0
EachCallRefuses = (s : List ℕ) (allow : Bool) (k : ℕ) → k ≢ 13 → k ≢ 14 → SameRefusal s allow k

-- "Our starts are the N numbers that working out starts returns for a sheet and a list." A list's duration of step 0 is 0. Proof: starts_returned.
pub record ReturnedFor (s : List ℕ) (allow : Bool) (q : Records) (v : ℕ) (list out : List ℕ) : Type 0 where
  pub accepted : Accepted s allow q v
  pub source : delays list 0 ≡ 0
  pub numbers : (i : ℕ) → i < count_of q → cell (starts_answer s allow list out).numbers i ≡ our_start q (delays list) i

abbrev pub StartsReturned : Type 0
StartsReturned = (s : List ℕ) (allow : Bool) (q : Records) (v : ℕ) (list out : List ℕ) → IsSheet s q → (starts_answer s allow list out).verdict ≡ given v → ReturnedFor s allow q v list out

-- "13. The list of durations is not as above." "14. A lent table or list is too short (N × N or N numbers)." "14 comes after 1 to 13; 13 judges those of the first N entries that are there."
-- "On acceptance lent numbers and bytes past the answer stay as lent." A refusal leaves lent memory untouched, and gives maps of 0. Proof: calls_exactly.
abbrev pub IsAccepted : List ℕ → Bool → Type 0
IsAccepted s allow = (v : ℕ) × (judged s allow ≡ given v)

pub record WaitsCall (s : List ℕ) (q : Records) : Type 0 where
  pub accepted : (v : ℕ) → ((waits_answer s).verdict ≡ given v) ↔ (judged s true ≡ given v)
  pub maps : (v : ℕ) → (waits_answer s).verdict ≡ given v → (waits_answer s).maps ≡ wait_maps (count_of q) (edges_of q)
  pub count : (v : ℕ) → (waits_answer s).verdict ≡ given v → (waits_answer s).count ≡ wait_count (count_of q) (edges_of q)
  pub no_maps : (k : ℕ) → (waits_answer s).verdict ≡ refused k → (waits_answer s).maps ≡ replicate most_steps 0
  pub no_count : (k : ℕ) → (waits_answer s).verdict ≡ refused k → (waits_answer s).count ≡ 0

pub record PlanCall (s : List ℕ) (allow : Bool) (q : Records) (table : List ℕ) : Type 0 where
  pub refused_14 : ((planned s allow table).verdict ≡ refused 14) ↔ (IsAccepted s allow × (length table < count_of q * count_of q))
  pub accepted : (v : ℕ) → ((planned s allow table).verdict ≡ given v) ↔ ((judged s allow ≡ given v) × (count_of q * count_of q ≤ length table))
  pub numbers : (v : ℕ) → (planned s allow table).verdict ≡ given v → (planned s allow table).numbers ≡ plan_table (count_of q) (leasts_of q) (serialized_of q) ++ drop (count_of q * count_of q) table
  pub untouched : (k : ℕ) → (planned s allow table).verdict ≡ refused k → (planned s allow table).numbers ≡ table

pub record StartsCall (s : List ℕ) (allow : Bool) (q : Records) (list out : List ℕ) : Type 0 where
  pub refused_13 : ((starts_answer s allow list out).verdict ≡ refused 13) ↔ (IsAccepted s allow × (¬ WithinLimits q list))
  pub refused_14 : ((starts_answer s allow list out).verdict ≡ refused 14) ↔ (IsAccepted s allow × WithinLimits q list × ((length list < count_of q) ⊎ (length out < count_of q)))
  pub accepted : (v : ℕ) → ((starts_answer s allow list out).verdict ≡ given v) ↔ ((judged s allow ≡ given v) × WithinLimits q list × (count_of q ≤ length list) × (count_of q ≤ length out))
  pub numbers : (v : ℕ) → (starts_answer s allow list out).verdict ≡ given v → (starts_answer s allow list out).numbers ≡ start_times (count_of q) (leasts_of q) (serialized_of q) (delays list) ++ drop (count_of q) out
  pub untouched : (k : ℕ) → (starts_answer s allow list out).verdict ≡ refused k → (starts_answer s allow list out).numbers ≡ out

pub record CallsFor (s : List ℕ) (allow : Bool) (q : Records) : Type 0 where
  pub waits : WaitsCall s q
  pub plan : (table : List ℕ) → PlanCall s allow q table
  pub starts : (list out : List ℕ) → StartsCall s allow q list out

abbrev pub CallsExactly : Type 0
CallsExactly = (s : List ℕ) (allow : Bool) (q : Records) → IsSheet s q → CallsFor s allow q

-- What a run of a sheet is begun with: refused as reading refuses, then 14 where fewer than N numbers are lent for the leasts; else N, the map of the open steps and the leasts are given, also where judging
-- refuses the sheet. Proof: steps_exactly.
pub record StepsExactly : Type 0 where
  pub unread : (s lent : List ℕ) (k : ℕ) → read s ≡ refused k → steps_answer s lent ≡ refused k
  pub short : (s lent : List ℕ) (q : Records) → read s ≡ given q → length lent < count_of q → steps_answer s lent ≡ refused 14
  pub enough : (s lent : List ℕ) (q : Records) → read s ≡ given q → count_of q ≤ length lent → steps_answer s lent ≡ given (beginning q lent)

-- "For every accepted sheet and every list our starts keep every link and wait." Proof: starts_kept.
pub record KeptFor (q : Records) (d : ℕ → ℕ) : Type 0 where
  pub links : KeepsLinks q d (our_start q d)
  pub waits : (w : WaitPair) → Memᴰ w (sheet_waits q) → Keeps q.steps d (our_start q d) (wait_link w)

abbrev pub StartsKept : Type 0
StartsKept = (s : List ℕ) (allow : Bool) (q : Records) (v : ℕ) → Accepted s allow q v → (d : ℕ → ℕ) → Durations q d → KeptFor q d

-- "Nobody is earlier: not a rival who knows every duration beforehand and gives any start times that keep every link (no waits needed)." The rival's t may depend on d in any way. On sheets without
-- late links. Proof: nobody_earlier.
abbrev pub NobodyEarlier : Type 0
NobodyEarlier =
    (s : List ℕ) (allow : Bool) (q : Records) → Accepted s allow q 0 → NoLateLinks q → (d t : ℕ → ℕ) → Durations q d → KeepsLinks q d t → (i : ℕ) → i < count_of q → our_start q d i ≤ t i

-- "Nor one who picks any sound sheet with these steps, these links and further after or at-least links, and any start times that keep it (waits added)." It holds where no waits are needed too.
-- Proof: nobody_earlier_with_waits.
abbrev pub NobodyEarlierWithWaits : Type 0
NobodyEarlierWithWaits =
    (s : List ℕ) (allow : Bool) (q : Records) (v : ℕ) → Accepted s allow q v → NoLateLinks q → (fs : List Constraint) → Extension q.steps (links_of q) fs → (d t : ℕ → ℕ) → Durations q d → KeepsAll q.steps fs d t → (i : ℕ) → i < count_of q → our_start q d i ≤ t i

-- The sheet with our waits put in as after links is one of these rivals' sheets, and our starts keep it. So the bound is met. Proof: ours_among_rivals.
pub record OursAmong (q : Records) (d : ℕ → ℕ) (fs : List Constraint) : Type 0 where
  pub extension : Extension q.steps (links_of q) fs
  pub kept : KeepsAll q.steps fs d (our_start q d)

abbrev pub OursAmongRivals : Type 0
OursAmongRivals =
    (s : List ℕ) (allow : Bool) (q : Records) (v : ℕ) → Accepted s allow q v → (d : ℕ → ℕ) → Durations q d → OursAmong q d (links_and_waits q)

-- ## Request L11

-- "For earliest starts on sheets with bit 4 on an open i the rival no longer knows the future." For every rival that keeps every link for every list, with no largest duration, and does not know the future:
-- each of its starts is at least ours, for every list. It holds on sheets without bit 4 too. Proof: nobody_earlier_without_foresight.
abbrev pub NobodyEarlierWithoutForesight : Type 0
NobodyEarlierWithoutForesight =
    (s : List ℕ) (allow : Bool) (q : Records) (v : ℕ) → Accepted s allow q v → (ρ : (ℕ → ℕ) → ℕ → ℕ) → DynamicStrategy q.steps (links_of q) ρ → (d : ℕ → ℕ) → DelayAssignment q.steps d → (i : ℕ) → i < count_of q → our_start q d i ≤ ρ d i

-- Our starts are such a rival. Proof: ours_without_foresight.
abbrev pub OursWithoutForesight : Type 0
OursWithoutForesight =
    (s : List ℕ) (allow : Bool) (q : Records) (v : ℕ) → Accepted s allow q v → DynamicStrategy q.steps (links_of q) (our_start q)

-- Refused 28 exactly if, not being 10 or 11, no such rival exists. Proof: refused_28_exactly.
abbrev pub NoRival : Records → Type 0
NoRival q = (ρ : (ℕ → ℕ) → ℕ → ℕ) → ¬ DynamicStrategy q.steps (links_of q) ρ

abbrev pub Refused28Exactly : Type 0
Refused28Exactly =
    (s : List ℕ) (allow : Bool) (q : Records) → WellFormed s q → (judged s allow ≡ refused 28) ↔ ((judged s allow ≢ refused 10) × (judged s allow ≢ refused 11) × NoRival q)

-- On a sheet without late links nothing is new: every walk may take every edge, without waits and with them, so that waits, offsets and sound are those of document 01 word for word, and 28
-- is never given. All else that makes a plan is defined from these. Proof: nothing_new. A plain wait is one of document 01, with walks over all edges.
pub record PlainWait (E : Graph) (a i : ℕ) : Type 0 where
  pub edge : Edge
  pub mem : E edge
  pub returns : edge.back ≡ true
  pub enters : edge.to ≡ i
  pub reaches : After E a edge.from
  pub absent : ¬ InAnchorSet E a i

pub record NothingNewFor (s : List ℕ) (allow : Bool) (q : Records) : Type 0 where
  pub unwaited : (a : ℕ) → usable (edges_of q) a ≡ edges_of q
  pub with_waits : (a : ℕ) → usable (serialized_of q) a ≡ serialized_of q
  pub sound : Sound q ↔ ((a : ℕ) → Carries (members (edges_of q)) a)
  pub waits : (a i : ℕ) → Memᴰ (wait_pair a i) (sheet_waits q) ↔ PlainWait (members (edges_of q)) a i
  pub offsets : (v : ℕ) → judged s allow ≡ given v → (a i : ℕ) → i < count_of q → in_start_set q a i ≡ true → Offset (leasts_of q) (members (serialized_of q)) a i (sheet_offset q a i)
  pub never_28 : judged s allow ≢ refused 28

abbrev pub NothingNew : Type 0
NothingNew = (s : List ℕ) (allow : Bool) (q : Records) → IsSheet s q → NoLateLinks q → NothingNewFor s allow q

-- ## Request L1

-- "Every sheet without the bit plans as before". What was read before is read as the same records, with the edges that they had, and the offsets of an accepted one keep to document 01's limit: "Offsets never
-- exceed 4,128,705." What was refused is refused as before, unless it was a map; and of the link maps those without bit 3 are allowed as before. All else is worked out from the steps and the edges. Proof:
-- plans_as_before.
pub record AsBefore (s : List ℕ) (q : Records) : Type 0 where
  pub reads : read s ≡ given q
  pub edges : edges_of q ≡ gapless_edges_of q
  pub small : (allow : Bool) (v : ℕ) → judged s allow ≡ given v → (a i : ℕ) → i < count_of q → in_start_set q a i ≡ true → sheet_offset q a i ≤ most_gapless_offset

pub record PlansAsBefore : Type 0 where
  pub sheets : (s : List ℕ) (q : Records) → Bytes s → gapless_read s ≡ given q → AsBefore s q
  pub refusals : (s : List ℕ) (k : ℕ) → k ≢ 4 → gapless_read s ≡ refused k → read s ≡ refused k
  pub maps : (m : ℕ) → m < 256 → test_bit m 3 ≡ false → link_map m ≡ gapless_map m

-- ## Request L3

-- "What buyers are promised about impossible sheets and earliest starts is read on the sheet so completed." Times are whole numbers from 0 on, and step 0 ends at tick 0, so an added link asks
-- nothing more of them: the same start times keep the links of the records. Proof: added_links_free.
abbrev pub AddedLinksFree : Type 0
AddedLinksFree = (s : List ℕ) (q : Records) → IsSheet s q → (d t : ℕ → ℕ) → KeepsLinks q d t ↔ KeepsAll q.steps (constraints q.pairs) d t

-- "A sheet whose only forward link out of step 1 goes back to 0 is then a circle, 8"; and so is every sheet with a forward link into step 0. Proof: into_source_circle.
abbrev pub IntoSourceCircle : Type 0
IntoSourceCircle = (s : List ℕ) (allow : Bool) (q : Records) → IsSheet s q → Entry (members (edges_of q)) 0 → judged s allow ≡ refused 8

-- A sheet on which a forward link leads into every step other than 0 means and plans what it did: nothing is added, so its links and edges are those of its records, and judging has no need of 9. All else is
-- worked out from the steps and the edges. Proof: entered_as_before.
abbrev pub AllEntered : Records → Type 0
AllEntered q = Entered (count_of q) (members (sent_edges q))

pub record NothingAdded (q : Records) : Type 0 where
  pub links : links_of q ≡ constraints q.pairs
  pub edges : edges_of q ≡ sent_edges q
  pub judges : (allow : Bool) → judge_edges (count_of q) (leasts_of q) (edges_of q) allow ≡ judge_with_9 (count_of q) (leasts_of q) (sent_edges q) allow

abbrev pub EnteredAsBefore : Type 0
EnteredAsBefore = (s : List ℕ) (q : Records) → IsSheet s q → AllEntered q → NothingAdded q

-- ## Request L6

-- "Where the papers take open durations as 0, they now take the least". On a sheet without bit 2 every least is 0, so it means and plans what it did: its edges, its waits, its offsets, who is left
-- out of a deciding set and which list entries are 13 are what they were, and all else is worked out from these. All durations respect its leasts, so what is promised is promised for the same ones.
pub record LeastlessFor (q : Records) : Type 0 where
  pub leasts : leasts_of q ≡ no_leasts
  pub edges : edges_of q ≡ leastless_edges_of q
  pub waits : serialized_of q ≡ leastless_serialized (count_of q) (edges_of q)
  pub offsets : (a v : ℕ) → sheet_offset q a v ≡ leastless_offset (count_of q) (serialized_of q) a v
  pub left_out : (a v b : ℕ) → overrides (count_of q) (leasts_of q) (serialized_of q) a v b ≡ leastless_overrides (count_of q) (serialized_of q) a v b
  pub lists : (list : List ℕ) (i : ℕ) → delay_wrong q.steps list i ≡ leastless_wrong q.steps list i
  pub durations : (d : ℕ → ℕ) → d 0 ≡ 0 → Durations q d

-- What was read before is read as the same records, and they are as above. What was refused is refused as before, unless it was a map; and of the step maps those without bit 2 are allowed as before:
-- "Step map bit 2, only with bit 0 and not on step 0, gives an open step a two-byte least duration." Proof: leastless_as_before.
pub record LeastlessAsBefore : Type 0 where
  pub sheets : (s : List ℕ) (q : Records) → Bytes s → leastless_read s ≡ given q → (read s ≡ given q) × LeastlessFor q
  pub refusals : (s : List ℕ) (k : ℕ) → k ≢ 4 → leastless_read s ≡ refused k → read s ≡ refused k
  pub maps : (first : Bool) (m : ℕ) → m < 256 → test_bit m 2 ≡ false → operation_map first m ≡ leastless_map first m

-- ## Demand 2: the tests mean what document 01 says

-- What the definitions compute over a list of edges is what document 01 says in words, as relations: chains and walks, start sets, sound; and refusal 8.
pub record Meant (n : ℕ) (es : List Edge) : Type 0 where
  pub walks : (x v : ℕ) → x < n → (reaches n es x v ≡ true) ↔ Joined (members es) x v
  pub after_walks : (a v : ℕ) → (after_reaches n es a v ≡ true) ↔ After (members es) a v
  pub end_walks : (a v : ℕ) → (after_reaches n (usable es a) a v ≡ true) ↔ After (UsableFrom (members es) a) a v
  pub start_sets : (a v : ℕ) → (in_anchor_set n es a v ≡ true) ↔ InAnchorSet (members es) a v
  pub sound : (well_posed n es ≡ true) ↔ WellPosed (members es)
  pub circle : (closes_circle n es ≡ true) ↔ ForwardCircle es

-- For every sheet, without its waits and with them. "Step 0 is in every set, its own too. Another open step .." Proof: tests_meant.
pub record MeantFor (q : Records) : Type 0 where
  pub unwaited : Meant (count_of q) (edges_of q)
  pub with_waits : Meant (count_of q) (serialized_of q)
  pub source : (v : ℕ) → in_start_set q 0 v ≡ true
  pub others_open : (a v : ℕ) → in_start_set q a v ≡ true → (a ≡ 0) ⊎ (delay_at q.steps a ≡ Open)

abbrev pub TestsMeant : Type 0
TestsMeant = (s : List ℕ) (q : Records) → IsSheet s q → MeantFor q

-- ## Demand 2: waits

-- A list in rising order: each member stands before all that follow it, so that none is there twice.
abbrev pub Rising : {A : Type 0} → (A → A → Type 0) → List A → Type 0
Rising before [] = Unit {0}
Rising {A} before (x ∷ l) = ((y : A) → Memᴰ y l → before x y) × Rising before l

-- "They are listed by a, then by i."
abbrev pub WaitBefore : WaitPair → WaitPair → Type 0
WaitBefore w u = (w.anchor < u.anchor) ⊎ ((w.anchor ≡ u.anchor) × (w.target < u.target))

-- What is listed are the waits of document 01, each for an open step other than 0. "The library returns them as 64 maps of 64 bits, bit a of map i." The maps and the count say what the list says.
-- Proof: waits_listed.
pub record WaitOf (q : Records) (w : WaitPair) : Type 0 where
  pub anchor_below : w.anchor < count_of q
  pub target_below : w.target < count_of q
  pub not_source : w.anchor ≢ 0
  pub lasts : delay_at q.steps w.anchor ≡ Open

pub record ListedFor (q : Records) : Type 0 where
  pub listed : (a i : ℕ) → Memᴰ (wait_pair a i) (sheet_waits q) ↔ Wait (members (edges_of q)) a i
  pub each : (w : WaitPair) → Memᴰ w (sheet_waits q) → WaitOf q w
  pub order : Rising WaitBefore (sheet_waits q)
  pub maps_size : length (wait_maps (count_of q) (edges_of q)) ≡ most_steps
  pub maps_small : (i : ℕ) → cell (wait_maps (count_of q) (edges_of q)) i < 2 ^ 64
  pub maps_bits : (a i : ℕ) → (test_bit (cell (wait_maps (count_of q) (edges_of q)) i) a ≡ true) ↔ Memᴰ (wait_pair a i) (sheet_waits q)
  pub count_list : wait_count (count_of q) (edges_of q) ≡ length (sheet_waits q)
  pub count_maps : wait_count (count_of q) (edges_of q) ≡ standing_bits (wait_maps (count_of q) (edges_of q))

abbrev pub WaitsListed : Type 0
WaitsListed = (s : List ℕ) (q : Records) → IsSheet s q → ListedFor q

-- "Verdict 0 is sound, 1 sound with waits." No step waits for itself, and step 0 for none. With the waits in, the sheet is sound, its forward links close no circle, and no closed walk
-- weighs above 0. Proof: waits_sound.
pub record WaitsFor (q : Records) (v : ℕ) : Type 0 where
  pub verdicts : (v ≡ 0) ⊎ (v ≡ 1)
  pub sound : (v ≡ 0) ↔ Sound q
  pub none : (v ≡ 0) ↔ (sheet_waits q ≡ [])
  pub itself : (a : ℕ) → ¬ Memᴰ (wait_pair a a) (sheet_waits q)
  pub source : (a : ℕ) → ¬ Memᴰ (wait_pair a 0) (sheet_waits q)
  pub then_sound : WellPosed (members (serialized_of q))
  pub then_no_circle : ¬ ForwardCircle (serialized_of q)
  pub then_no_gain : (x k g l : ℕ) → Walk (members (serialized_of q)) x x k g l → g ≤ l

abbrev pub WaitsSound : Type 0
WaitsSound = (s : List ℕ) (allow : Bool) (q : Records) (v : ℕ) → Accepted s allow q v → WaitsFor q v

-- ## Demand 2: offsets and starts

-- "Offset of v for a in its start set: the heaviest walk from a to v that begins with an after link out of a; for a = 0, the heaviest walk from 0." "A walk that counts from the end of i, for a wait
-- or an offset, never takes" i's own return from the finish. "An offset still counts from the end of its open step, so its walk's first link adds no least." "Offsets may now reach 8,191,875".
-- Proof: offsets_right.
pub record OffsetFor (q : Records) (a v : ℕ) : Type 0 where
  pub heaviest : Offset (leasts_of q) (UsableFrom (members (serialized_of q)) a) a v (sheet_offset q a v)
  pub small : sheet_offset q a v ≤ most_offset

abbrev pub OffsetsRight : Type 0
OffsetsRight =
    (s : List ℕ) (allow : Bool) (q : Records) (v : ℕ) → Accepted s allow q v → (a i : ℕ) → i < count_of q → in_start_set q a i ≡ true → OffsetFor q a i

-- "Start of v: start(0) = 0; else the largest of start(a) + duration(a) + offset, over a in the start set." For a list, starts fit 32 bits. Proof: start_rule.
pub record StartRuleFor (q : Records) : Type 0 where
  pub source : (d : ℕ → ℕ) → our_start q d 0 ≡ 0
  pub rule : (d : ℕ → ℕ) (i : ℕ) → suc i < count_of q → our_start q d (suc i) ≡ largest (λ a. in_start_set q a (suc i)) (term q d (suc i)) (count_of q)
  pub small : (list : List ℕ) → IsDelayList q list → (i : ℕ) → our_start q (delays list) i ≤ most_start
  pub narrow : (list : List ℕ) → IsDelayList q list → (i : ℕ) → our_start q (delays list) i < 2 ^ 32

abbrev pub StartRule : Type 0
StartRule = (s : List ℕ) (allow : Bool) (q : Records) (v : ℕ) → Accepted s allow q v → StartRuleFor q

-- ## Demand 2: deciding sets

-- A part of the start set of v that gives the same largest value for every list. A part with no member has no largest value.
pub record GivesStart (q : Records) (v : ℕ) (part : ℕ → Bool) : Type 0 where
  pub some : (a : ℕ) × (part a ≡ true)
  pub within : (a : ℕ) → part a ≡ true → in_start_set q a v ≡ true
  pub same : (list : List ℕ) → IsDelayList q list → our_start q (delays list) v ≡ largest part (term q (delays list) v) (count_of q)

-- A list for which a alone is the largest.
pub record Needed (q : Records) (a v : ℕ) : Type 0 where
  pub list : List ℕ
  pub allowed : IsDelayList q list
  pub alone : (b : ℕ) → b ≢ a → in_start_set q b v ≡ true → term q (delays list) v b < term q (delays list) v a

-- "Member a is left out exactly when another member b has a in its start set and offset of b for a, plus offset of v for b, reaches the offset of v for a." "(the least of b is added)".
pub record LeftOut (q : Records) (a v b : ℕ) : Type 0 where
  pub other : b ≢ a
  pub member : in_start_set q b v ≡ true
  pub behind : in_start_set q a b ≡ true
  pub reaches : sheet_offset q a v ≤ sheet_offset q a b + leasts_of q b + sheet_offset q b v

-- "Deciding set of v: the smallest part of the start set with the same largest value for every list of durations." For durations past a list's limit too. An open step is listed exactly if some
-- durations need it. Proof: deciding_sets.
pub record DecidingFor (q : Records) (v : ℕ) : Type 0 where
  pub enough : (d : ℕ → ℕ) → Durations q d → our_start q d v ≡ largest (λ a. sheet_decides q a v) (term q d v) (count_of q)
  pub part : GivesStart q v (λ a. sheet_decides q a v)
  pub smallest : (part : ℕ → Bool) → GivesStart q v part → (a : ℕ) → sheet_decides q a v ≡ true → part a ≡ true
  pub needed : (a : ℕ) → in_start_set q a v ≡ true → (sheet_decides q a v ≡ true) ↔ Needed q a v
  pub left_out : (a : ℕ) → in_start_set q a v ≡ true → (sheet_decides q a v ≡ false) ↔ ((b : ℕ) × LeftOut q a v b)

abbrev pub DecidingSets : Type 0
DecidingSets = (s : List ℕ) (allow : Bool) (q : Records) (v : ℕ) → Accepted s allow q v → (i : ℕ) → i < count_of q → DecidingFor q i

-- "A plan is a table of N by N numbers of 32 bits .. The number at v × N + a is the offset, or 4,294,967,295 where a does not decide v." No offset is that number.
-- "Row v can be asked for: that part of the caller's table is handed back, N numbers." The table may be longer than the plan. Proof: plan_table.
pub record PlanFor (q : Records) : Type 0 where
  pub size : length (plan_table (count_of q) (leasts_of q) (serialized_of q)) ≡ count_of q * count_of q
  pub entry : (v a : ℕ) → v < count_of q → a < count_of q → get_or (plan_table (count_of q) (leasts_of q) (serialized_of q)) (v * count_of q + a) 0 ≡ cond (sheet_decides q a v) (sheet_offset q a v) undecided
  pub apart : (v a : ℕ) → v < count_of q → sheet_decides q a v ≡ true → sheet_offset q a v < undecided
  pub row : (v : ℕ) → v < count_of q → (rest : List ℕ) → row_part (plan_table (count_of q) (leasts_of q) (serialized_of q) ++ rest) (count_of q) v ≡ plan_row (count_of q) (leasts_of q) (serialized_of q) v

abbrev pub PlanTable : Type 0
PlanTable = (s : List ℕ) (allow : Bool) (q : Records) (v : ℕ) → Accepted s allow q v → PlanFor q

-- "A start line is step, deciding step, offset, in rising order of the first two." What is listed of an accepted sheet is its verdict, its waits and these lines. Proof:
-- lines_listed.
abbrev pub sheet_lines : Records → List StartLine
sheet_lines q = start_lines (count_of q) (leasts_of q) (serialized_of q)

abbrev pub LineBefore : StartLine → StartLine → Type 0
LineBefore k l = (k.step < l.step) ⊎ ((k.step ≡ l.step) × (k.decider < l.decider))

pub record LinesFor (s : List ℕ) (allow : Bool) (q : Records) (v : ℕ) : Type 0 where
  pub listing : listed s allow ≡ given (record { verdict = v; waits = sheet_waits q; starts = sheet_lines q })
  pub lines : (i a ticks : ℕ) → Memᴰ (record { step = i; decider = a; ticks = ticks }) (sheet_lines q) ↔ ((i < count_of q) × (sheet_decides q a i ≡ true) × (ticks ≡ sheet_offset q a i))
  pub order : Rising LineBefore (sheet_lines q)

abbrev pub LinesListed : Type 0
LinesListed = (s : List ℕ) (allow : Bool) (q : Records) (v : ℕ) → Accepted s allow q v → LinesFor s allow q v

-- ## How much of an input decides

-- The longest sheet has 5,825 bytes (`longest_sheet`); one more shows that something follows it. So any longer front of any bytes decides what is read and what `standplan` and `standprice` print. Proof:
-- front_decides.
pub record FrontFor (s : List ℕ) (limit : ℕ) : Type 0 where
  pub reads : read (take limit s) ≡ read s
  pub prints : standplan (take limit s) ≡ standplan s
  pub prices : price_report (take limit s) ≡ price_report s

abbrev pub FrontDecides : Type 0
FrontDecides = (s : List ℕ) (limit : ℕ) → longest_sheet < limit → FrontFor s limit

-- ## The hypotheses are met

-- A sheet of the worked table.
abbrev pub WorkedBytes : List ℕ → Type 0
WorkedBytes s = (w : Worked) × Memᴰ w worked_sheets × (w.bytes ≡ s)

-- There are accepted sheets of both verdicts; sheets refused 10, and 11 with a list that leaves none; and for one with waits a rival's sheet, with links of its own, and start times that keep it and
-- differ from ours. Of request L11: a sheet with a late link that needs no waits, on which a rival with foresight is earlier than we are, so that `NobodyEarlier` is false there; and two that are refused 28, by
-- a circle and without. Of request L6: an accepted sheet with a least. Proof: hypotheses_met.
pub record RivalMet (q : Records) : Type 0 where
  pub links : List Constraint
  pub extension : Extension q.steps (links_of q) links
  pub durations : ℕ → ℕ
  pub respected : Durations q durations
  pub times : ℕ → ℕ
  pub kept : KeepsAll q.steps links durations times
  pub step : ℕ
  pub exists : step < count_of q
  pub later : our_start q durations step < times step

pub record ForesightEarlier (q : Records) : Type 0 where
  pub durations : ℕ → ℕ
  pub assigned : DelayAssignment q.steps durations
  pub times : ℕ → ℕ
  pub kept : KeepsLinks q durations times
  pub step : ℕ
  pub exists : step < count_of q
  pub earlier : times step < our_start q durations step

pub record HypothesesMet : Type 0 where
  pub sound : (s : List ℕ) × (q : Records) × WorkedBytes s × Accepted s false q 0
  pub with_waits : (s : List ℕ) × (q : Records) × WorkedBytes s × Accepted s true q 1 × RivalMet q
  pub infeasible : (s : List ℕ) × (q : Records) × WorkedBytes s × WellFormed s q × (judged s true ≡ refused 10)
  pub inconsistent : (s : List ℕ) × (q : Records) × WorkedBytes s × WellFormed s q × (judged s true ≡ refused 11) × SomeListLeavesNone q
  pub foresight : (s : List ℕ) × (q : Records) × WorkedBytes s × Accepted s false q 0 × ForesightEarlier q
  pub circle : (s : List ℕ) × (q : Records) × WorkedBytes s × WellFormed s q × (judged s false ≡ refused 28) × (closes_circle (count_of q) (serialized_of q) ≡ true)
  pub no_circle : (s : List ℕ) × (q : Records) × WorkedBytes s × WellFormed s q × (judged s false ≡ refused 28) × (closes_circle (count_of q) (serialized_of q) ≡ false)
  pub least : (s : List ℕ) × (q : Records) × WorkedBytes s × Accepted s false q 0 × (a : ℕ) × (0 < leasts_of q a)
