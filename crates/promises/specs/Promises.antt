-- The demands 2 and 3 on the planner, stated of what the library's functions return. Definitions alone: the theorem of the same name in small letters, in proofs/Promises.antt, proves it.
-- s are the bytes of the sheet, q its records, r the verdict that is returned. What a function returned is said by the record that its contract is (crates/plan_answer/specs/Returned.antt): proofs/Ties.antt shows of each function that it is.
use Rattle.std.specs.Prelude.{◌≡◌, Bool, true, cond, ◌⊎◌, ◌≢◌, ◌↔◌, ℕ, ◌+◌, ◌*◌, ◌≤◌, ◌<◌, take}
use Rattle.definitions.specs.Numbers.{Verdict, verdict_of}
use mathlib.Core.List.{List, Memᴰ}
use Rattle.definitions.specs.Answers.{count_of, edges_of, leasts_of}
use Rattle.definitions.specs.Basics.{given, refused, test_bit}
use Rattle.definitions.specs.Bytes.{Records}
use Rattle.definitions.specs.Links.{Constraint, Keeps, KeepsAll, links_of, members}
use Rattle.definitions.specs.Plan.{delays, undecided}
use Rattle.definitions.specs.Rival.{DynamicStrategy, Extension}
use Rattle.definitions.specs.Rounds.{cell}
use Rattle.definitions.specs.Waits.{Wait, WaitPair}
use Rattle.demands.specs.Demands.{DecidingFor, Durations, IsSheet, KeepsLinks, NoLateLinks, NoRival, NoStarts, OffsetFor, SomeListLeavesNone, WellFormed, in_start_set, sheet_decides, sheet_offset, sheet_waits, wait_link}
use Rattle.theory.specs.Counts.{standing_bits}
use Rattle.definitions.specs.declared.WaitMaps.{WaitMaps}
use Rattle.plan_answer.specs.Returned.{JudgeReturned, PlanReturned, StartsReturned, WaitsReturned}

-- ## Demand 3

-- A well-formed sheet is called impossible, 10 or 11, exactly when some list of durations leaves no start times that keep every link: from each call that judges, lists waits, plans or works out
-- starts. Where it is not, all durations that respect the leasts leave some. Request L11: refused 28 exactly if, not being 10 or 11, no rival without foresight exists.
pub record Impossible (q : Records) (r : Verdict) : Type 0 where
  pub refused_10 : (verdict_of r ≡ refused 10) ↔ NoStarts q (leasts_of q)
  pub refused_11 : (verdict_of r ≡ refused 11) ↔ ((verdict_of r ≢ refused 10) × SomeListLeavesNone q)
  pub impossible : ((verdict_of r ≡ refused 10) ⊎ (verdict_of r ≡ refused 11)) ↔ SomeListLeavesNone q
  pub otherwise : verdict_of r ≢ refused 10 → verdict_of r ≢ refused 11 → (d : ℕ → ℕ) → Durations q d → (t : ℕ → ℕ) × KeepsLinks q d t
  pub refused_28 : (verdict_of r ≡ refused 28) ↔ ((verdict_of r ≢ refused 10) × (verdict_of r ≢ refused 11) × NoRival q)

pub record EachCall (s : List ℕ) (allow : Bool) (q : Records) : Type 0 where
  pub judge : (r : Verdict) → JudgeReturned s allow r → Impossible q r
  pub waits : (r : WaitMaps) → WaitsReturned s r → Impossible q r.verdict
  pub plan : (table after : List ℕ) (r : Verdict) → PlanReturned s allow table r after → Impossible q r
  pub starts : (list out after : List ℕ) (r : Verdict) → StartsReturned s allow list out r after → Impossible q r

abbrev pub ImpossibleFromEachCall : Type 0
ImpossibleFromEachCall = (s : List ℕ) (allow : Bool) (q : Records) → WellFormed s q → EachCall s allow q

-- For every accepted sheet and every list the start times that are returned keep every link and wait, and nobody is earlier: not a rival who knows every duration beforehand and gives any start
-- times that keep every link (no waits needed: verdict 0), nor one who picks any sound sheet with these steps, these links and further after or at-least links, and any start times that keep it. On
-- sheets with a limit from the finish of an open step, the rival does not know the future: it is a strategy, and gives start times for the first N entries of the list.
pub record StartsKeep (q : Records) (v : ℕ) (list after : List ℕ) : Type 0 where
  pub links : KeepsLinks q (delays list) (cell after)
  pub waits : (w : WaitPair) → Memᴰ w (sheet_waits q) → Keeps q.steps (delays list) (cell after) (wait_link w)
  pub earliest : NoLateLinks q → v ≡ 0 → (t : ℕ → ℕ) → KeepsLinks q (delays list) t → (i : ℕ) → i < count_of q → cell after i ≤ t i
  pub earliest_of_rivals : NoLateLinks q → (fs : List Constraint) → Extension q.steps (links_of q) fs → (t : ℕ → ℕ) → KeepsAll q.steps fs (delays list) t → (i : ℕ) → i < count_of q → cell after i ≤ t i
  pub earliest_without_foresight : (ρ : (ℕ → ℕ) → ℕ → ℕ) → DynamicStrategy q.steps (links_of q) ρ → (i : ℕ) → i < count_of q → cell after i ≤ ρ (delays (take (count_of q) list)) i

abbrev pub StartsKeepAndNobodyIsEarlier : Type 0
StartsKeepAndNobodyIsEarlier =
    (s : List ℕ) (allow : Bool) (q : Records) (list out : List ℕ) (r : Verdict) (after : List ℕ) (v : ℕ) → IsSheet s q → StartsReturned s allow list out r after → verdict_of r ≡ given v → StartsKeep q v list after

-- ## Demand 2

-- The maps that are returned for an accepted sheet hold its waits, and the count is theirs.
pub record WaitsHeld (q : Records) (r : WaitMaps) : Type 0 where
  pub bits : (a i : ℕ) → (test_bit (cell r.maps i) a ≡ true) ↔ Wait (members (edges_of q)) a i
  pub count : r.count ≡ standing_bits r.maps

abbrev pub WaitsAreThose : Type 0
WaitsAreThose = (s : List ℕ) (q : Records) (r : WaitMaps) (v : ℕ) → IsSheet s q → WaitsReturned s r → verdict_of r.verdict ≡ given v → WaitsHeld q r

-- The table that is returned for an accepted sheet names at v × N + a the offset of v for a, which is the heaviest walk, where a decides v; an open step is named exactly if some durations need it.
pub record PlanHeld (q : Records) (after : List ℕ) : Type 0 where
  pub entry : (v a : ℕ) → v < count_of q → a < count_of q → cell after (v * count_of q + a) ≡ cond (sheet_decides q a v) (sheet_offset q a v) undecided
  pub deciding : (v : ℕ) → v < count_of q → DecidingFor q v
  pub offsets : (a v : ℕ) → v < count_of q → in_start_set q a v ≡ true → OffsetFor q a v

abbrev pub PlanIsThat : Type 0
PlanIsThat =
    (s : List ℕ) (allow : Bool) (q : Records) (table : List ℕ) (r : Verdict) (after : List ℕ) (v : ℕ) → IsSheet s q → PlanReturned s allow table r after → verdict_of r ≡ given v → PlanHeld q after
