-- Runs of an accepted sheet, and what is certified of every state of every run. Definitions alone: each statement is proved in proofs/Runs.antt, by the theorem that its comment names.
--
-- Words that are not defined here are those of the crates definitions (Dispatcher: the calls) and demands (accepted sheets, deciding sets, our starts). Quoted sentences are those of documents 01 and 02.
-- Durations have no largest one: no list's limit stands here, and a run has any number of calls.
use Rattle.std.specs.Prelude.{◌≡◌, Bool, true, false, ◌⊎◌, ◌≢◌, ◌↔◌, ℕ, ◌+◌, ◌-◌, ◌*◌, ◌≤◌, ◌<◌, get_or, take, length, replicate}
use mathlib.Core.List.{List, [], ◌∷◌, Memᴰ}
use Rattle.definitions.specs.Limits.{last_tick}
use Rattle.definitions.specs.Basics.{all_below, test_bit, given, refused}
use Rattle.definitions.specs.Bytes.{Records}
use Rattle.definitions.specs.Links.{Constraint, sequencing, minimum, maximum, finish_maximum, links_of, delay_at, duration}
use Rattle.definitions.specs.Waits.{WaitPair}
use Rattle.definitions.specs.Plan.{plan_table, undecided}
use Rattle.definitions.specs.Answers.{Beginning, count_of, leasts_of, serialized_of, planned, steps_answer}
use Rattle.definitions.specs.Dispatcher.{entry, Progress, sweep, begin, ticked, tick, ended, finish, called, state_after, map_after}
use Rattle.definitions.specs.declared.Call.{Call}
use Rattle.definitions.specs.declared.Call.TheVariants.{Begin, Tick, Finish}
use Rattle.definitions.specs.Worked.{stand, two_hands, exposure, hand_over, held_back, lip, slow_hand, idle}
use Rattle.definitions.specs.declared.State.{State}
use Rattle.definitions.specs.declared.Delay.{Delay}
use Rattle.definitions.specs.declared.Delay.TheVariants.{Open, Fixed}
use Rattle.demands.specs.Demands.{Accepted, IsSheet, in_start_set, sheet_decides, our_start, sheet_waits, wait_link}

-- ## The rule of one call

-- Which steps have started and finished, and when.
abbrev pub Started : State → ℕ → Type 0
Started st v = test_bit st.started v ≡ true

abbrev pub Finished : State → ℕ → Type 0
Finished st v = test_bit st.finished v ≡ true

abbrev pub start_tick : State → ℕ → ℕ
start_tick st v = get_or st.start v 0

abbrev pub finish_tick : State → ℕ → ℕ
finish_tick st v = get_or st.finish v 0

-- "After each, a step not yet started starts if its row names at least one step, and each named step has finished, its finish tick plus its offset not above the tick." st is the state in which the tick has
-- grown, or the step has finished. "On a table from anywhere this same rule holds; a row that names none never starts. Steps numbered N or more do not exist."
pub record Starts (st : State) (table : List ℕ) (v : ℕ) : Type 0 where
  pub exists : v < st.n
  pub not_yet : test_bit st.started v ≡ false
  pub some : (a : ℕ) × (a < st.n) × (entry st table v a ≢ undecided)
  pub each : (a : ℕ) → a < st.n → entry st table v a ≢ undecided → Finished st a × (finish_tick st a + entry st table v a ≤ st.tick)

-- "Each call returns a 64-bit map of the steps it started." These have started then, at this tick; of all others nothing changes. For any state with as many start ticks as steps, and any table. Proof:
-- sweeps_meant.
pub record SweepFor (st : State) (table : List ℕ) : Type 0 where
  pub map : (v : ℕ) → (test_bit (sweep st table).map v ≡ true) ↔ Starts st table v
  pub started : (v : ℕ) → Started (sweep st table).state v ↔ (Started st v ⊎ Starts st table v)
  pub now : (v : ℕ) → Starts st table v → start_tick (sweep st table).state v ≡ st.tick
  pub others : (v : ℕ) → ¬ Starts st table v → start_tick (sweep st table).state v ≡ start_tick st v

abbrev pub SweepsMeant : Type 0
SweepsMeant = (st : State) (table : List ℕ) → st.n ≤ length st.start → SweepFor st table

-- ## A run

-- The sheet's open map: bit i stands exactly if step i is open. "Its bit 0 counts for nothing", and "steps numbered N or more do not exist": these bits are free.
pub record IsOpenMap (q : Records) (unbounded : ℕ) : Type 0 where
  pub stands : (i : ℕ) → 0 < i → i < count_of q → (test_bit unbounded i ≡ true) ↔ (delay_at q.steps i ≡ Open)

-- The sheet's table, as it is lent: its first N × N numbers are the plan. It may be longer, and another one at each call.
pub record IsLent (q : Records) (table : List ℕ) : Type 0 where
  pub plan : take (count_of q * count_of q) table ≡ plan_table (count_of q) (leasts_of q) (serialized_of q)

-- The sheet's least durations, as they are lent at Begin (request L6): a number for each step, 0 for step 0 and for steps that have none. The list may be longer.
pub record AreLeasts (q : Records) (leasts : List ℕ) : Type 0 where
  pub long : count_of q ≤ length leasts
  pub each : (i : ℕ) → i < count_of q → get_or leasts i 0 ≡ leasts_of q i

-- "In a run begun with the sheet's N and open map and lent its table at each call", and "for a run begun with the sheet's own" least durations. It begins with a Begin that is not refused, on
-- any state that has not begun; after it come any calls, refused ones among them, with any least durations beside them: `Run q st` says that st is a state of such a run. A refused call leaves
-- the state as given (`state_after`).
pub data Run (q : Records) : State → Type 0 where
  begins : {st : State} (before : State) (unbounded : ℕ) (leasts table : List ℕ) (g : Progress) → IsOpenMap q unbounded → AreLeasts q leasts → IsLent q table → begin before (count_of q) unbounded leasts table ≡ given g → st ≡ g.state → Run q st
  goes_on : {st before : State} → Run q before → (c : Call) (leasts table : List ℕ) → IsLent q table → st ≡ state_after before (called before table leasts c) → Run q st

-- What a sheet gives to begin a run with (`steps_answer`), without anyone reading its bytes: its N, its open map, and its least durations at the front of the numbers that are lent for them. A Begin with these three
-- begins a run of the sheet. Proof: begun_with_steps.
pub record BeginsRun (q : Records) (b : Beginning) : Type 0 where
  pub count : b.n ≡ count_of q
  pub open_map : IsOpenMap q b.unbounded
  pub leasts : AreLeasts q b.leasts
  pub run : (before : State) (table : List ℕ) (g : Progress) → IsLent q table → begin before b.n b.unbounded b.leasts table ≡ given g → Run q g.state

abbrev pub BegunWithSteps : Type 0
BegunWithSteps = (s : List ℕ) (q : Records) (lent : List ℕ) (b : Beginning) → IsSheet s q → steps_answer s lent ≡ given b → BeginsRun q b

-- ## The planned tick

-- "A reported duration is finish tick less start tick." The subtraction stops at 0: ticks are 0 until then, so a step that has not finished counts as 0. No planned tick depends on it
-- once the deciding steps have finished, since all steps of the start set have finished then.
abbrev pub reported : State → ℕ → ℕ
reported st a = finish_tick st a - start_tick st a

-- "The planned tick of a step, once its deciding steps have finished, is its start by the rule above over the reported durations, even above a list's limit."
abbrev pub planned_tick : Records → State → ℕ → ℕ
planned_tick q st v = our_start q (reported st) v

abbrev pub DecidersFinished : Records → State → ℕ → Type 0
DecidersFinished q st v = (a : ℕ) → sheet_decides q a v ≡ true → Finished st a

-- Each step has started exactly if all its deciding steps have finished and its planned tick is not above the tick, and then its start tick is the planned tick. Proof: planned_ticks.
pub record OnTime (q : Records) (st : State) (v : ℕ) : Type 0 where
  pub exactly : Started st v ↔ (DecidersFinished q st v × (planned_tick q st v ≤ st.tick))
  pub at_planned : Started st v → start_tick st v ≡ planned_tick q st v

abbrev pub PlannedTicks : Type 0
PlannedTicks =
    (s : List ℕ) (allow : Bool) (q : Records) (w : ℕ) → Accepted s allow q w → (st : State) → Run q st → (v : ℕ) → v < count_of q → OnTime q st v

-- What else holds of the state: it keeps N, the open map and the least durations; the tick fits 32 bits; steps numbered N or more never start or finish; only open steps and step 0 finish, once
-- they have started, and no reported duration is below its least: that is no assumption, but what 20 sees to; start and finish ticks are not above the tick, and "0 until then". Proof:
-- run_states.
pub record StateFor (q : Records) (st : State) : Type 0 where
  pub count : st.n ≡ count_of q
  pub open_map : IsOpenMap q st.unbounded
  pub leasts : (v : ℕ) → get_or st.least v 0 ≡ leasts_of q v
  pub clock : st.tick ≤ last_tick
  pub source : Started st 0 × Finished st 0 × (start_tick st 0 ≡ 0) × (finish_tick st 0 ≡ 0)
  pub only_steps : (v : ℕ) → Started st v → v < count_of q
  pub finished_started : (v : ℕ) → Finished st v → Started st v
  pub finished_open : (v : ℕ) → Finished st v → (v ≡ 0) ⊎ (delay_at q.steps v ≡ Open)
  pub in_order : (v : ℕ) → Finished st v → start_tick st v + leasts_of q v ≤ finish_tick st v
  pub starts_past : (v : ℕ) → start_tick st v ≤ st.tick
  pub finishes_past : (v : ℕ) → finish_tick st v ≤ st.tick
  pub not_started : (v : ℕ) → test_bit st.started v ≡ false → start_tick st v ≡ 0
  pub not_finished : (v : ℕ) → test_bit st.finished v ≡ false → finish_tick st v ≡ 0

abbrev pub RunStates : Type 0
RunStates = (s : List ℕ) (allow : Bool) (q : Records) (w : ℕ) → Accepted s allow q w → (st : State) → Run q st → StateFor q st

-- "17. Finish of a step that is not open, is 0, has not started, or has finished." The others can finish, from their least end on (20).
pub record CanFinish (q : Records) (st : State) (x : ℕ) : Type 0 where
  pub exists : x < count_of q
  pub not_source : x ≢ 0
  pub lasts : delay_at q.steps x ≡ Open
  pub started : Started st x
  pub running : test_bit st.finished x ≡ false

-- "20, Finish at a tick below its start tick plus its least duration."
abbrev pub least_end : Records → State → ℕ → ℕ
least_end q st x = start_tick st x + leasts_of q x

-- No other call of a run is refused than Begin (16), a Tick at the clock's end (18), a Finish of a step that cannot finish (17), and one below the least duration (20). So a hand's finish is
-- taken at every tick from the least end on. Proof: run_answers.
pub record AnswersFor (q : Records) (st : State) (table : List ℕ) : Type 0 where
  pub begins_never : (n unbounded : ℕ) (leasts : List ℕ) → begin st n unbounded leasts table ≡ refused 16
  pub ticks : st.tick ≢ last_tick → tick st table ≡ given (sweep (ticked st) table)
  pub clock_end : st.tick ≡ last_tick → tick st table ≡ refused 18
  pub finishes : (x : ℕ) → CanFinish q st x → least_end q st x ≤ st.tick → finish st x table ≡ given (sweep (ended st x) table)
  pub finishes_early : (x : ℕ) → CanFinish q st x → st.tick < least_end q st x → finish st x table ≡ refused 20
  pub finishes_never : (x : ℕ) → ¬ CanFinish q st x → finish st x table ≡ refused 17

abbrev pub RunAnswers : Type 0
RunAnswers =
    (s : List ℕ) (allow : Bool) (q : Records) (w : ℕ) → Accepted s allow q w → (st : State) → Run q st → (table : List ℕ) → IsLent q table → AnswersFor q st table

-- What a call of a run changes. The start tick of a step is the tick of the call whose map named it, its finish tick is the tick at which its Finish was taken, and no such tick changes later; only a Tick moves
-- the clock, by one. That holds of every call, whatever table it is lent. The map of the Begin names what has started then, at tick 0. Proofs: history_kept, begin_named.
pub record HistoryFor (st : State) (c : Call) (map : ℕ) (after : State) : Type 0 where
  pub named : (v : ℕ) → (test_bit map v ≡ true) ↔ ((test_bit st.started v ≡ false) × Started after v)
  pub starts_now : (v : ℕ) → test_bit st.started v ≡ false → Started after v → start_tick after v ≡ after.tick
  pub starts_kept : (v : ℕ) → Started st v → Started after v × (start_tick after v ≡ start_tick st v)
  pub finishes_now : (v : ℕ) → test_bit st.finished v ≡ false → Finished after v → (c ≡ Finish v) × (finish_tick after v ≡ after.tick)
  pub finishes_kept : (v : ℕ) → Finished st v → Finished after v × (finish_tick after v ≡ finish_tick st v)
  pub clock : (after.tick ≡ st.tick) ⊎ ((c ≡ Tick) × (after.tick ≡ st.tick + 1))

abbrev pub HistoryKept : Type 0
HistoryKept =
    (s : List ℕ) (allow : Bool) (q : Records) (w : ℕ) → Accepted s allow q w → (st : State) → Run q st → (c : Call) (leasts table : List ℕ) → HistoryFor st c (map_after (called st table leasts c)) (state_after st (called st table leasts c))

abbrev pub BeginNamed : Type 0
BeginNamed =
    (before : State) (n unbounded : ℕ) (leasts table : List ℕ) (g : Progress) → begin before n unbounded leasts table ≡ given g → (g.state.tick ≡ 0) × ((v : ℕ) → (test_bit g.map v ≡ true) ↔ Started g.state v)

-- No run is stuck: a step that has not started waits for an open step of its start set that is at work, or for the clock to come to a planned tick, its own or that of a step of its start set. Proof:
-- nothing_stuck.
pub data WaitsOn (q : Records) (st : State) (v : ℕ) : Type 0 where
  on_hand : (a : ℕ) → in_start_set q a v ≡ true → CanFinish q st a → WaitsOn q st v
  on_clock : (u : ℕ) → (u ≡ v) ⊎ (in_start_set q u v ≡ true) → test_bit st.started u ≡ false → DecidersFinished q st u → st.tick < planned_tick q st u → WaitsOn q st v

abbrev pub NothingStuck : Type 0
NothingStuck =
    (s : List ℕ) (allow : Bool) (q : Records) (w : ℕ) → Accepted s allow q w → (st : State) → Run q st → (v : ℕ) → v < count_of q → test_bit st.started v ≡ false → WaitsOn q st v

-- ## The certificate

-- After, with the gap g: where j has started, i has started before it or at the same tick, and the link's line holds of the ticks. Out of an open i other than step 0: i has finished, and j started no
-- earlier than the gap after that.
pub record AfterHolds (q : Records) (st : State) (i j g : ℕ) : Type 0 where
  pub started : Started st i
  pub order : start_tick st i ≤ start_tick st j
  pub line : start_tick st i + duration q.steps (reported st) i + g ≤ start_tick st j
  pub ended : i ≢ 0 → delay_at q.steps i ≡ Open → Finished st i × (finish_tick st i + g ≤ start_tick st j)

-- At least m.
pub record AtLeastHolds (st : State) (i j m : ℕ) : Type 0 where
  pub started : Started st i
  pub order : start_tick st i ≤ start_tick st j
  pub line : start_tick st i + m ≤ start_tick st j

-- A limit is not missed: j has started by its last tick, or has not started and that tick is still to come.
abbrev pub NotMissed : State → ℕ → ℕ → Type 0
NotMissed st j last = (Started st j × (start_tick st j ≤ last)) ⊎ ((test_bit st.started j ≡ false) × (st.tick < last))

-- At most u: where i has started, j has started at most u later, or has not started and the tick is below start(i) + u.
abbrev pub AtMostHolds : State → ℕ → ℕ → ℕ → Type 0
AtMostHolds st i j u = NotMissed st j (start_tick st i + u)

-- At most u from the finish (request L11): if i has finished, j has started by finish(i) + u, or has not started and the tick is below finish(i) + u. Step 0 has finished at tick 0; a fixed step finishes its
-- duration after its start.
abbrev pub FinishHolds : State → ℕ → ℕ → ℕ → Delay → Type 0
FinishHolds st i j u Open = Finished st i → NotMissed st j (finish_tick st i + u)
FinishHolds st i j u (Fixed ticks) = Started st i → NotMissed st j (start_tick st i + ticks + u)

abbrev pub Holds : Records → State → Constraint → Type 0
Holds q st (sequencing i j g) = Started st j → AfterHolds q st i j g
Holds q st (minimum i j m) = Started st j → AtLeastHolds st i j m
Holds q st (maximum i j u) = Started st i → AtMostHolds st i j u
Holds q st (finish_maximum i j u) = FinishHolds st i j u (delay_at q.steps i)

-- At every state of every run of every accepted sheet, every link and every wait holds. Nothing is asked of the durations: a hand may take any time at all, from its least on. Proof: certificate.
pub record Certified (q : Records) (st : State) : Type 0 where
  pub links : (c : Constraint) → Memᴰ c (links_of q) → Holds q st c
  pub waits : (p : WaitPair) → Memᴰ p (sheet_waits q) → Holds q st (wait_link p)

abbrev pub Certificate : Type 0
Certificate = (s : List ℕ) (allow : Bool) (q : Records) (w : ℕ) → Accepted s allow q w → (st : State) → Run q st → Certified q st

-- ## The hypotheses are met

-- The state after calls that are all lent one table, and the same least durations.
abbrev pub after_calls : State → List ℕ → List ℕ → List Call → State
after_calls st table leasts [] = st
after_calls st table leasts (c ∷ cs) = after_calls (state_after st (called st table leasts c)) table leasts cs

-- The plan of a sheet of n steps, written into a table of n × n numbers.
abbrev pub table_of : List ℕ → ℕ → List ℕ
table_of bytes n = (planned bytes true (replicate (n * n) 0)).numbers

-- The sheet is accepted with the verdict; a run of it, begun with n, the map and the least durations on a state that has not begun and lent its table at each of the calls, starts all n steps,
-- at the ticks given.
abbrev pub after_begin : List ℕ → ℕ → ℕ → List ℕ → List Call → State
after_begin bytes n unbounded leasts calls = after_calls idle (table_of bytes n) leasts (Begin n unbounded ∷ calls)

pub record WorkedRun (bytes : List ℕ) (verdict n unbounded : ℕ) (leasts : List ℕ) (calls : List Call) (starts : List ℕ) : Type 0 where
  pub records : Records
  pub accepted : Accepted bytes true records verdict
  pub lent : IsLent records (table_of bytes n)
  pub run : Run records (after_begin bytes n unbounded leasts calls)
  pub all_started : all_below (test_bit (after_begin bytes n unbounded leasts calls).started) n ≡ true
  pub ticks : take n (after_begin bytes n unbounded leasts calls).start ≡ starts

-- "Run of it: Begin gives 7; Finish 2 gives 0; ticks give 8, 0, 16. A second Finish 2: 17." A run in which the hand takes 10: "Stand sheet, hand 10: starts 0, 0, 0, 10, 12." And a run of two hands, in which step 3
-- waits for hand 2. Of request L11: the exposure starts when the hand is done, 3 ticks in; of the hand-over, hand 1 starts when hand 2 is done, and step 3 when hand 1 is; and
-- the hand that is held back is done at 7, while step 2 waits for tick 10. Of request L1: the hand is done at 3, and the step after it starts six ticks later.
-- Of request L6: the hand of at least eight ticks says at 7 that it is done, which is refused 20, and is done at 8. Proof: runs_met.
pub record RunsMet : Type 0 where
  pub stand_at_once : WorkedRun (stand 2) 0 5 4 (replicate 5 0) (Finish 2 ∷ Tick ∷ Tick ∷ Tick ∷ Finish 2 ∷ []) (0 ∷ 0 ∷ 0 ∷ 1 ∷ 3 ∷ [])
  pub stand_hand_ten : WorkedRun (stand 2) 0 5 4 (replicate 5 0) (Tick ∷ Tick ∷ Tick ∷ Tick ∷ Tick ∷ Tick ∷ Tick ∷ Tick ∷ Tick ∷ Tick ∷ Finish 2 ∷ Tick ∷ Tick ∷ []) (0 ∷ 0 ∷ 0 ∷ 10 ∷ 12 ∷ [])
  pub two_hands_wait : WorkedRun two_hands 1 5 6 (replicate 5 0) (Finish 1 ∷ Tick ∷ Tick ∷ Tick ∷ Finish 2 ∷ []) (0 ∷ 0 ∷ 0 ∷ 3 ∷ 3 ∷ [])
  pub exposure_in_time : WorkedRun exposure 0 3 2 (replicate 3 0) (Tick ∷ Tick ∷ Tick ∷ Finish 1 ∷ []) (0 ∷ 0 ∷ 3 ∷ [])
  pub hand_over_waits : WorkedRun hand_over 1 4 6 (replicate 4 0) (Tick ∷ Tick ∷ Finish 2 ∷ Tick ∷ Tick ∷ Tick ∷ Finish 1 ∷ []) (0 ∷ 2 ∷ 0 ∷ 5 ∷ [])
  pub held_back_in_time : WorkedRun held_back 0 3 2 (replicate 3 0) (Tick ∷ Tick ∷ Tick ∷ Tick ∷ Tick ∷ Tick ∷ Tick ∷ Finish 1 ∷ Tick ∷ Tick ∷ Tick ∷ []) (0 ∷ 6 ∷ 10 ∷ [])
  pub lip_lets_go : WorkedRun lip 0 3 2 (replicate 3 0) (Tick ∷ Tick ∷ Tick ∷ Finish 1 ∷ Tick ∷ Tick ∷ Tick ∷ Tick ∷ Tick ∷ Tick ∷ []) (0 ∷ 0 ∷ 9 ∷ [])
  pub slow_hand_in_time : WorkedRun (slow_hand 8) 0 3 2 (0 ∷ 8 ∷ 0 ∷ []) (Tick ∷ Tick ∷ Tick ∷ Tick ∷ Tick ∷ Tick ∷ Tick ∷ Finish 1 ∷ Tick ∷ Finish 1 ∷ []) (0 ∷ 0 ∷ 8 ∷ [])
