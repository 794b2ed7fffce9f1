-- Request L14, "The few records that clash", as statements about sheets as bytes. Each is proved in proofs/Demands.antt, by the theorem that its comment names. Quoted sentences are document 02's.
use Rattle.std.specs.Prelude.{◌≡◌, Bool, true, false, ◌⊎◌, ◌≢◌, ◌↔◌, List, [], ◌∷◌, ◌++◌, ℕ, zero, suc, ◌≤◌, ◌<◌, length, drop}
use Rattle.definitions.specs.Basics.{given, refused}
use Rattle.definitions.specs.Bytes.{Records, read}
use Rattle.definitions.specs.Answers.{closes_circle, count_of, edges_of, judge_records, judged}
use Rattle.definitions.specs.Clashes.{impossible, part_of, few, few_answer}
use Rattle.definitions.specs.Worked.{two_clashes}
use Rattle.demands.specs.Demands.{Bytes, FromReading, IsSheet, WellFormed, KeepsLinks, Durations, SomeListLeavesNone, Circle, Rising}
use Rattle.demands.specs.Parts.{Within}

-- ## Parts of a sheet

-- "Impossible means 10 or 11": some list of durations leaves no start times; and what is not impossible has start times for all durations that respect the leasts.
pub record Impossible (q : Records) : Type 0 where
  pub test : impossible q ≡ true
  pub some_list : SomeListLeavesNone q

pub record Possible (q : Records) : Type 0 where
  pub test : impossible q ≡ false
  pub no_list : ¬ SomeListLeavesNone q
  pub starts : (d : ℕ → ℕ) → Durations q d → (t : ℕ → ℕ) × KeepsLinks q d t

-- "L3's links are worked out afresh for each part." A part of a well-formed sheet is judged as a sheet with these steps and records. It is never refused 8, so that "still refused as 10 or 11" asks for these two
-- alone, whether or not waits are allowed; and what they mean of a sheet they mean of the part. Proof: parts_judged.
pub record PartJudged (p : Records) : Type 0 where
  pub no_circle : closes_circle (count_of p) (edges_of p) ≡ false
  pub never_8 : (allow : Bool) → judge_records p allow ≢ refused 8
  pub refusals : (allow : Bool) → (impossible p ≡ true) ↔ ((judge_records p allow ≡ refused 10) ⊎ (judge_records p allow ≡ refused 11))
  pub lists : (impossible p ≡ true) ↔ SomeListLeavesNone p
  pub otherwise : impossible p ≡ false → Possible p

abbrev pub PartsJudged : Type 0
PartsJudged = (s : List ℕ) (q : Records) → WellFormed s q → (ks : List ℕ) → Within (length q.pairs) ks → PartJudged (part_of q ks)

-- ## What stays

-- The list without the element at a place.
unfoldable pub remove_at : {A : Type 0} → List A → ℕ → List A
remove_at [] i = []
remove_at (x ∷ xs) zero = xs
remove_at (x ∷ xs) (suc i) = x ∷ remove_at xs i

-- "What stays is reported as record numbers, counted from 0, rising. The part is itself impossible, and without any one of its records it is not." There is at least one, and there are no more than the sheet has.
-- Proof: few_clash.
pub record FewFor (q : Records) (ks : List ℕ) : Type 0 where
  pub numbers : Within (length q.pairs) ks
  pub rising : Rising (λ k l. k < l) ks
  pub some : 1 ≤ length ks
  pub no_more : length ks ≤ length q.pairs
  pub together : Impossible (part_of q ks)
  pub without_one : (i : ℕ) → i < length ks → Possible (part_of q (remove_at ks i))

abbrev pub FewClash : Type 0
FewClash = (s : List ℕ) (q : Records) → WellFormed s q → SomeListLeavesNone q → FewFor q (few q)

-- ## The call

-- "Turned away: 31, a sheet not refused as 10 or 11, after 1 to 9; then 14, a list shorter than the report." Else the count is given, and the report stands in front of what is past it in the lent list. A refusal
-- leaves the list as it was lent.
pub record FewCall (s : List ℕ) (q : Records) (list : List ℕ) : Type 0 where
  pub refused_8 : ((few_answer s list).verdict ≡ refused 8) ↔ Circle q
  pub refused_31 : ((few_answer s list).verdict ≡ refused 31) ↔ (WellFormed s q × (¬ SomeListLeavesNone q))
  pub not_10_11 : (allow : Bool) → ((few_answer s list).verdict ≡ refused 31) ↔ (WellFormed s q × (judged s allow ≢ refused 10) × (judged s allow ≢ refused 11))
  pub refused_14 : ((few_answer s list).verdict ≡ refused 14) ↔ (WellFormed s q × SomeListLeavesNone q × (length list < length (few q)))
  pub reported : (k : ℕ) → ((few_answer s list).verdict ≡ given k) ↔ (WellFormed s q × SomeListLeavesNone q × (k ≡ length (few q)) × (k ≤ length list))
  pub numbers : (k : ℕ) → (few_answer s list).verdict ≡ given k → (few_answer s list).numbers ≡ few q ++ drop (length (few q)) list

-- The refusals of the call: those of reading, 8, 31 and 14. So it is never refused with 10, 11, 12, 13 or 28. Proof: few_exactly.
abbrev pub FromFew : ℕ → Type 0
FromFew k = FromReading k ⊎ ((k ≡ 8) ⊎ ((k ≡ 31) ⊎ (k ≡ 14)))

pub record FewExactly : Type 0 where
  pub unread : (s list : List ℕ) (k : ℕ) → Bytes s → (read s ≡ refused k) ↔ (((few_answer s list).verdict ≡ refused k) × FromReading k)
  pub sheets : (s list : List ℕ) (q : Records) → IsSheet s q → FewCall s q list
  pub no_others : (s list : List ℕ) (k : ℕ) → Bytes s → (few_answer s list).verdict ≡ refused k → FromFew k
  pub untouched : (s list : List ℕ) (k : ℕ) → (few_answer s list).verdict ≡ refused k → (few_answer s list).numbers ≡ list

-- ## The hypotheses are met

-- A sheet of the worked table that has two clashes, 0 with 2 and 1 with 3: of its four records two are reported, and the two of the other clash are not. Proof: few_met.
abbrev pub FewMet : Type 0
FewMet = (q : Records) × WellFormed two_clashes q × SomeListLeavesNone q × (length q.pairs ≡ 4) × (few q ≡ 0 ∷ 2 ∷ []) × FewFor q (0 ∷ 2 ∷ [])
