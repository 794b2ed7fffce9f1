-- What is promised of runs, stated of what the runner's functions return. Definitions alone: the theorem of the same name in small letters, in proofs/Runs.antt, proves it.
-- What a function returned is said by what its contract cites: `BeginReturned`, `TickReturned`, `FinishReturned` of the crate run_calls, `StepsReturned` of run_sheet. r is what was returned: a status, a state and a map. What a run is and what is certified of its states is
-- defined in the crate certificates; quoted sentences are those of the demands and of documents 01 and 02.
use Rattle.std.specs.Prelude.{◌≡◌, Bool, true, false, ◌⊎◌, ◌≢◌, ◌↔◌, List, ℕ, ◌≤◌, ◌<◌, length, Err, Ok}
use Rattle.definitions.specs.Numbers.{Verdict, number, verdict_of}
use Rattle.definitions.specs.Answers.{Beginning, count_of}
use Rattle.definitions.specs.Basics.{given, test_bit}
use Rattle.definitions.specs.Bytes.{Records}
use Rattle.definitions.specs.Dispatcher.{ended, fresh, ticked}
use Rattle.definitions.specs.Limits.{last_tick}
use Rattle.definitions.specs.declared.Call.{Call}
use Rattle.definitions.specs.declared.Call.TheVariants.{Begin, Finish, Tick}
use Rattle.definitions.specs.declared.Dispatch.{Dispatch}
use Rattle.definitions.specs.declared.Refusal.{Refusal}
use Rattle.definitions.specs.declared.State.{State}
use Rattle.demands.specs.Demands.{Accepted, IsSheet}
use Rattle.run_calls.specs.Calls.{BeginReturned, FinishReturned, TickReturned}
use Rattle.run_sheet.specs.Steps.{StepsReturned}
use Rattle.certificates.specs.Runs.{AreLeasts, CanFinish, Certified, HistoryFor, IsLent, IsOpenMap, OnTime, Started, StateFor, Starts, WaitsOn, least_end, start_tick}
use Rattle.plan_answer.specs.Returned.{PlanReturned}

-- ## What the calls return

-- A call of the runner on the state st, lent the table, returned r. Least durations are lent beside it, for Begin alone.
abbrev pub CallReturned : State → List ℕ → List ℕ → Call → Dispatch → Type 0
CallReturned st table leasts (Begin n unbounded) r = BeginReturned st n unbounded leasts table r
CallReturned st table leasts Tick r = TickReturned st table r
CallReturned st table leasts (Finish s) r = FinishReturned st s table r

-- It went through, or it was refused, by the number of the refusal.
abbrev pub WentThrough : Dispatch → Type 0
WentThrough r = r.status ≡ (Ok tt)

abbrev pub RefusedBy : Dispatch → ℕ → Type 0
RefusedBy r k = (why : Refusal) × (r.status ≡ Err why) × (number why ≡ k)

-- ## Demand 1

-- "Nothing lent changes on a refusal": on any state and any table a call that is refused returns the state as given, and map 0.
abbrev pub RefusalsKeep : Type 0
RefusalsKeep = (st : State) (table leasts : List ℕ) (c : Call) (r : Dispatch) (k : ℕ) → CallReturned st table leasts c r → RefusedBy r k → (r.state ≡ st) × (r.map ≡ 0)

-- So too where N, the open map and the leasts of a sheet are asked for, whatever its bytes: all that is lent for them stays.
abbrev pub StepsRefusalsKeep : Type 0
StepsRefusalsKeep = (s : List ℕ) (lent : Beginning) (why : Refusal) (after : Beginning) → StepsReturned s lent (Err why) after → after ≡ lent

-- ## The rule of one call, on any state and any table

-- What has started after a call, of the state st in which the tick has grown, or the step has finished, or all was set anew: what had started, and what starts by the rule, at this tick.
pub record StartedBy (st : State) (table : List ℕ) (after : State) : Type 0 where
  pub started : (v : ℕ) → Started after v ↔ (Started st v ⊎ Starts st table v)
  pub now : (v : ℕ) → Starts st table v → start_tick after v ≡ st.tick
  pub others : (v : ℕ) → ¬ Starts st table v → start_tick after v ≡ start_tick st v

-- "Each call returns a 64-bit map of the steps it started." The map of Begin names what has started then, step 0 too, at tick 0. A state has as many start ticks as steps: the code's has 64.
pub record EachCallStarts : Type 0 where
  pub begin : (st : State) (n unbounded : ℕ) (leasts table : List ℕ) (r : Dispatch) → BeginReturned st n unbounded leasts table r → WentThrough r → StartedBy (fresh n unbounded leasts) table r.state
  pub begin_map : (st : State) (n unbounded : ℕ) (leasts table : List ℕ) (r : Dispatch) → BeginReturned st n unbounded leasts table r → WentThrough r → (r.state.tick ≡ 0) × ((v : ℕ) → (test_bit r.map v ≡ true) ↔ Started r.state v)
  pub tick : (st : State) (table : List ℕ) (r : Dispatch) → st.n ≤ length st.start → TickReturned st table r → WentThrough r → StartedBy (ticked st) table r.state
  pub tick_map : (st : State) (table : List ℕ) (r : Dispatch) → st.n ≤ length st.start → TickReturned st table r → WentThrough r → (v : ℕ) → (test_bit r.map v ≡ true) ↔ Starts (ticked st) table v
  pub finish : (st : State) (s : ℕ) (table : List ℕ) (r : Dispatch) → st.n ≤ length st.start → FinishReturned st s table r → WentThrough r → StartedBy (ended st s) table r.state
  pub finish_map : (st : State) (s : ℕ) (table : List ℕ) (r : Dispatch) → st.n ≤ length st.start → FinishReturned st s table r → WentThrough r → (v : ℕ) → (test_bit r.map v ≡ true) ↔ Starts (ended st s) table v

-- ## Demand 2, and the certificate

-- "In a run begun with the sheet's N and open map and lent its table at each call", and "with the sheet's own" least durations: st is the state that the last call returned. It begins with a
-- Begin that went through, on any state; after it come any calls, refused ones among them, each on the state that the one before it returned.
pub data RunReturned (q : Records) : State → Type 0 where
  begins : {st : State} (before : State) (unbounded : ℕ) (leasts table : List ℕ) (r : Dispatch) → IsOpenMap q unbounded → AreLeasts q leasts → IsLent q table → BeginReturned before (count_of q) unbounded leasts table r → WentThrough r → st ≡ r.state → RunReturned q st
  goes_on : {st before : State} → RunReturned q before → (c : Call) (leasts table : List ℕ) (r : Dispatch) → IsLent q table → CallReturned before table leasts c r → st ≡ r.state → RunReturned q st

-- "The sheet's N and open map" and its least durations are what `steps` of the crate run_sheet leaves where it goes through, so nobody who runs a sheet has to read its bytes: these are the sheet's, and a Begin with them that goes through begins such a run.
pub record StepsBegin (q : Records) (b : Beginning) : Type 0 where
  pub count : b.n ≡ count_of q
  pub open_map : IsOpenMap q b.unbounded
  pub leasts : AreLeasts q b.leasts
  pub run : (before : State) (table : List ℕ) (r : Dispatch) → IsLent q table → BeginReturned before b.n b.unbounded b.leasts table r → WentThrough r → RunReturned q r.state

abbrev pub StepsBeginRuns : Type 0
StepsBeginRuns = (s : List ℕ) (q : Records) (lent after : Beginning) → IsSheet s q → StepsReturned s lent (Ok tt) after → StepsBegin q after

-- "Its table" is what planning leaves of a table that it is lent, where the sheet is accepted.
abbrev pub PlanCanBeLent : Type 0
PlanCanBeLent =
    (s : List ℕ) (allow : Bool) (q : Records) (table : List ℕ) (r : Verdict) (after : List ℕ) (w : ℕ) → IsSheet s q → PlanReturned s allow table r after → verdict_of r ≡ given w → Accepted s allow q w × IsLent q after

-- Which calls of a run go through: Begin never, Tick "while its clock lasts", Finish of a step that can finish, from its start tick plus its least duration on; below that it is 20.
abbrev pub AnswerFor : Records → State → Call → Dispatch → Type 0
AnswerFor q st (Begin n unbounded) r = RefusedBy r 16
AnswerFor q st Tick r = (st.tick ≢ last_tick → WentThrough r) × (st.tick ≡ last_tick → RefusedBy r 18)
AnswerFor q st (Finish x) r = (CanFinish q st x → least_end q st x ≤ st.tick → WentThrough r) × (CanFinish q st x → st.tick < least_end q st x → RefusedBy r 20) × (¬ CanFinish q st x → RefusedBy r 17)

pub record CallFor (q : Records) (st : State) (c : Call) (r : Dispatch) : Type 0 where
  pub answer : AnswerFor q st c r
  pub history : HistoryFor st c r.map r.state

-- "On an accepted sheet's table the runner starts each step at the planned tick for the durations reported, while its clock lasts": `on_time`. Every link and wait is kept by the ticks: `certified`. No run is stuck: a step that has
-- not started waits for a hand that is at work, or for the clock. No reported duration is below its least: `state`.
pub record KeptBy (q : Records) (st : State) : Type 0 where
  pub on_time : (v : ℕ) → v < count_of q → OnTime q st v
  pub certified : Certified q st
  pub state : StateFor q st
  pub not_stuck : (v : ℕ) → v < count_of q → test_bit st.started v ≡ false → WaitsOn q st v
  pub calls : (c : Call) (leasts table : List ℕ) (r : Dispatch) → IsLent q table → CallReturned st table leasts c r → CallFor q st c r

abbrev pub RunnerKeepsPlan : Type 0
RunnerKeepsPlan = (s : List ℕ) (allow : Bool) (q : Records) (w : ℕ) → Accepted s allow q w → (st : State) → RunReturned q st → KeptBy q st
