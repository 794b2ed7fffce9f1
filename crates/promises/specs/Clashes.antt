-- Request L14, "The few records that clash", stated of what `clashes` of the crate clash_sheet returns. Definitions alone: the theorem of the same name in small letters, in proofs/Clashes.antt, proves it.
-- What the function returned is said by what its contract cites, `FewReturned`: r is its answer, `after` the list that was lent. Quoted sentences are document 02's.
use Rattle.std.specs.Prelude.{◌≡◌, ◌↔◌, List, ℕ, ◌≤◌, ◌<◌, drop, length, take}
use Rattle.definitions.specs.Numbers.{Tally, tally_of}
use Rattle.definitions.specs.Basics.{given, refused}
use Rattle.definitions.specs.Bytes.{Records}
use Rattle.definitions.specs.Clashes.{few}
use Rattle.demands.specs.Clashes.{FewFor}
use Rattle.demands.specs.Demands.{Circle, IsSheet, SomeListLeavesNone, WellFormed}
use Rattle.clash_sheet.specs.Reports.{FewReturned}

-- "What stays is reported as record numbers, counted from 0, rising. The part is itself impossible, and without any one of its records it is not": the first k numbers of the list, where k is the count that was
-- returned. Those past them are as lent.
pub record ReportHeld (q : Records) (list after : List ℕ) (k : ℕ) : Type 0 where
  pub impossible : SomeListLeavesNone q
  pub within : k ≤ length list
  pub report : take k after ≡ few q
  pub clash : FewFor q (take k after)
  pub rest : drop k after ≡ drop k list

-- "Turned away: 31, a sheet not refused as 10 or 11, after 1 to 9; then 14, a list shorter than the report."
pub record FewHeld (s : List ℕ) (q : Records) (list : List ℕ) (r : Tally) (after : List ℕ) : Type 0 where
  pub reported : (k : ℕ) → tally_of r ≡ given k → ReportHeld q list after k
  pub refused_8 : (tally_of r ≡ refused 8) ↔ Circle q
  pub refused_31 : (tally_of r ≡ refused 31) ↔ (WellFormed s q × (¬ SomeListLeavesNone q))
  pub refused_14 : (tally_of r ≡ refused 14) ↔ (WellFormed s q × SomeListLeavesNone q × (length list < length (few q)))

abbrev pub FewIsThat : Type 0
FewIsThat = (s : List ℕ) (q : Records) (list : List ℕ) (r : Tally) (after : List ℕ) → IsSheet s q → FewReturned s list r after → FewHeld s q list r after

-- "Nothing lent changes on a refusal", whatever the bytes.
abbrev pub FewRefusalsKeep : Type 0
FewRefusalsKeep = (s list : List ℕ) (r : Tally) (after : List ℕ) (k : ℕ) → FewReturned s list r after → tally_of r ≡ refused k → after ≡ list
