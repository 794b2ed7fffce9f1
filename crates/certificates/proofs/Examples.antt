-- The hypotheses of the theorems are met: runs of the stand sheet, of two hands, of three sheets of request L11, of one of L1 and of one of L6, computed.
use mathlib.Core.Path.{◌≡◌, refl, sym, ◌∙◌}
use mathlib.Core.Bool.{Bool, true, cond, not, ◌||◌}
use mathlib.Core.Logic.{◌⊎◌, inl, inr, ◌↔◌}
use mathlib.Core.List.{List, [], ◌∷◌}
use Prim.Native.Nat.{ℕ, ◌*◌, ◌<◌}
use native.Mathlib.Omega.{arith}
use lib.Dec.{eqb, ltb}
use lib.ListN.{length, get_or, take, replicate}
use borrow.Author.Tests.{eqb-true, ltb-true}
use Rattle.definitions.specs.Basics.{all, all_below, test_bit, Outcome, given, refused}
use Rattle.definitions.specs.Bytes.{Records, read}
use Rattle.definitions.specs.Links.{delay_at, is_open}
use Rattle.definitions.specs.Plan.{plan_table}
use Rattle.definitions.specs.Answers.{count_of, leasts_of, serialized_of, judged}
use Rattle.definitions.specs.Dispatcher.{Progress, begin, called, state_after}
use Rattle.definitions.specs.declared.Call.{Call}
use Rattle.definitions.specs.declared.Call.TheVariants.{Begin, Tick, Finish}
use Rattle.definitions.specs.Worked.{every_definition, stand, two_hands, exposure, hand_over, held_back, lip, slow_hand, idle}
use Rattle.definitions.specs.declared.State.{State}
use Rattle.definitions.specs.declared.Delay.TheVariants.{Open}
use Rattle.laws.proofs.Bools.{or_split, same_truth}
use Rattle.laws.proofs.Tests.{all_each, all_below_each}
use Rattle.demands.specs.Demands.{Accepted}
use Rattle.demands.proofs.Examples.{records_in}
use Rattle.certificates.specs.Runs.{IsOpenMap, AreLeasts, IsLent, Run, begins, goes_on, after_calls, table_of, after_begin, WorkedRun, RunsMet}
use Rattle.certificates.proofs.Begun.{is_open_iff}

-- A sheet's records, and what its Begin gives.
abbrev records_of : List ℕ → Records
records_of bytes = records_in (read bytes)

abbrev progress_in : Outcome Progress → Progress
progress_in (given g) = g
progress_in (refused k) = record { state = idle; map = 0 }

abbrev begun_of : List ℕ → ℕ → ℕ → List ℕ → Progress
begun_of bytes n unbounded leasts = progress_in (begin idle n unbounded leasts (table_of bytes n))

-- Whether a map says of a step whether it is open.
says_open : List ℕ → ℕ → ℕ → Bool
says_open bytes unbounded i = eqb i 0 || cond (test_bit unbounded i) (is_open (delay_at (records_of bytes).steps i)) (not (is_open (delay_at (records_of bytes).steps i)))

-- All that is computed of a sheet.
record Computed (bytes : List ℕ) (verdict n unbounded : ℕ) (leasts : List ℕ) : Type 0 where
  small : all (λ b. ltb b 256) bytes ≡ true
  reads : read bytes ≡ given (records_of bytes)
  accepts : judged bytes true ≡ given verdict
  opens : all_below (says_open bytes unbounded) (count_of (records_of bytes)) ≡ true
  least_count : length leasts ≡ count_of (records_of bytes)
  leasts_said : all_below (λ i. eqb (get_or leasts i 0) (leasts_of (records_of bytes) i)) (count_of (records_of bytes)) ≡ true
  begin_given : begin idle (count_of (records_of bytes)) unbounded leasts (table_of bytes n) ≡ given (begun_of bytes n unbounded leasts)
  begin_called : state_after idle (called idle (table_of bytes n) leasts (Begin n unbounded)) ≡ (begun_of bytes n unbounded leasts).state
  table : take (count_of (records_of bytes) * count_of (records_of bytes)) (table_of bytes n) ≡ plan_table (count_of (records_of bytes)) (leasts_of (records_of bytes)) (serialized_of (records_of bytes))

-- Calls that are all lent the sheet's table go on a run. Induction on the calls.
calls_go_on : {q : Records} {st : State} (table leasts : List ℕ) → IsLent q table → Run q st → (cs : List Call) → Run q (after_calls st table leasts cs)
calls_go_on table leasts lent run [] = run
calls_go_on {st = st} table leasts lent run (c ∷ cs) = calls_go_on {st = state_after st (called st table leasts c)} table leasts lent (goes_on run c leasts table lent refl) cs

module _ {bytes : List ℕ} {verdict n unbounded : ℕ} {leasts : List ℕ} (computed : Computed bytes verdict n unbounded leasts) where
  accepted : Accepted bytes true (records_of bytes) verdict
  accepted = record { sheet = record { bytes = λ b m. ltb-true b 256 (all_each (λ b. ltb b 256) bytes computed.small b m); reads = computed.reads }; accepts = computed.accepts }

  lent : IsLent (records_of bytes) (table_of bytes n)
  lent = record { plan = computed.table }

  open_map : IsOpenMap (records_of bytes) unbounded
  open_map = record { stands = λ i h b. each i h (all_below_each (says_open bytes unbounded) (count_of (records_of bytes)) computed.opens i b) }
    where
      each : (i : ℕ) → 0 < i → says_open bytes unbounded i ≡ true → (test_bit unbounded i ≡ true) ↔ (delay_at (records_of bytes).steps i ≡ Open)
      each i h t = go (or_split (eqb i 0) (cond (test_bit unbounded i) (is_open (delay_at (records_of bytes).steps i)) (not (is_open (delay_at (records_of bytes).steps i)))) (unfold says_open in t))
        where
          go : (eqb i 0 ≡ true) ⊎ (cond (test_bit unbounded i) (is_open (delay_at (records_of bytes).steps i)) (not (is_open (delay_at (records_of bytes).steps i))) ≡ true) → (test_bit unbounded i ≡ true) ↔ (delay_at (records_of bytes).steps i ≡ Open)
          go (inl z) = absurd (omega (arith, eqb-true i 0 z))
          go (inr s) =
              let e = same_truth (test_bit unbounded i) (is_open (delay_at (records_of bytes).steps i)) s in
              let r = is_open_iff (delay_at (records_of bytes).steps i) in
              (λ t. r.0 (sym e ∙ t), λ o. e ∙ r.1 o)

  are_leasts : AreLeasts (records_of bytes) leasts
  are_leasts = record { long = omega (arith, computed.least_count); each = λ i b. eqb-true (get_or leasts i 0) (leasts_of (records_of bytes) i) (all_below_each (λ i. eqb (get_or leasts i 0) (leasts_of (records_of bytes) i)) (count_of (records_of bytes)) computed.leasts_said i b) }

  run : (cs : List Call) → Run (records_of bytes) (after_begin bytes n unbounded leasts cs)
  run =
      calls_go_on (table_of bytes n) leasts lent
      (begins {st = state_after idle (called idle (table_of bytes n) leasts (Begin n unbounded))} idle unbounded leasts (table_of bytes n) (begun_of bytes n unbounded leasts) open_map are_leasts lent computed.begin_given computed.begin_called)

  worked_run : (cs : List Call) (starts : List ℕ) → all_below (test_bit (after_begin bytes n unbounded leasts cs).started) n ≡ true → take n (after_begin bytes n unbounded leasts cs).start ≡ starts → WorkedRun bytes verdict n unbounded leasts cs starts
  worked_run cs starts started ticks = record { records = records_of bytes; accepted = accepted; lent = lent; run = run cs; all_started = started; ticks = ticks }

stand_computed : Computed (stand 2) 0 5 4 (replicate 5 0)
unfolding every_definition called judged says_open
stand_computed = record { small = refl; reads = refl; accepts = refl; opens = refl; least_count = refl; leasts_said = refl; begin_given = refl; begin_called = refl; table = refl }

hands_computed : Computed two_hands 1 5 6 (replicate 5 0)
unfolding every_definition called judged says_open
hands_computed = record { small = refl; reads = refl; accepts = refl; opens = refl; least_count = refl; leasts_said = refl; begin_given = refl; begin_called = refl; table = refl }

exposure_computed : Computed exposure 0 3 2 (replicate 3 0)
unfolding every_definition called judged says_open
exposure_computed = record { small = refl; reads = refl; accepts = refl; opens = refl; least_count = refl; leasts_said = refl; begin_given = refl; begin_called = refl; table = refl }

over_computed : Computed hand_over 1 4 6 (replicate 4 0)
unfolding every_definition called judged says_open
over_computed = record { small = refl; reads = refl; accepts = refl; opens = refl; least_count = refl; leasts_said = refl; begin_given = refl; begin_called = refl; table = refl }

back_computed : Computed held_back 0 3 2 (replicate 3 0)
unfolding every_definition called judged says_open
back_computed = record { small = refl; reads = refl; accepts = refl; opens = refl; least_count = refl; leasts_said = refl; begin_given = refl; begin_called = refl; table = refl }

lip_computed : Computed lip 0 3 2 (replicate 3 0)
unfolding every_definition called judged says_open
lip_computed = record { small = refl; reads = refl; accepts = refl; opens = refl; least_count = refl; leasts_said = refl; begin_given = refl; begin_called = refl; table = refl }

slow_computed : Computed (slow_hand 8) 0 3 2 (0 ∷ 8 ∷ 0 ∷ [])
unfolding every_definition called judged says_open
slow_computed = record { small = refl; reads = refl; accepts = refl; opens = refl; least_count = refl; leasts_said = refl; begin_given = refl; begin_called = refl; table = refl }

pub examples : RunsMet
unfolding every_definition called
examples = record {
  stand_at_once = worked_run stand_computed (Finish 2 ∷ Tick ∷ Tick ∷ Tick ∷ Finish 2 ∷ []) (0 ∷ 0 ∷ 0 ∷ 1 ∷ 3 ∷ []) refl refl;
  stand_hand_ten = worked_run stand_computed (Tick ∷ Tick ∷ Tick ∷ Tick ∷ Tick ∷ Tick ∷ Tick ∷ Tick ∷ Tick ∷ Tick ∷ Finish 2 ∷ Tick ∷ Tick ∷ []) (0 ∷ 0 ∷ 0 ∷ 10 ∷ 12 ∷ []) refl refl;
  two_hands_wait = worked_run hands_computed (Finish 1 ∷ Tick ∷ Tick ∷ Tick ∷ Finish 2 ∷ []) (0 ∷ 0 ∷ 0 ∷ 3 ∷ 3 ∷ []) refl refl;
  exposure_in_time = worked_run exposure_computed (Tick ∷ Tick ∷ Tick ∷ Finish 1 ∷ []) (0 ∷ 0 ∷ 3 ∷ []) refl refl;
  hand_over_waits = worked_run over_computed (Tick ∷ Tick ∷ Finish 2 ∷ Tick ∷ Tick ∷ Tick ∷ Finish 1 ∷ []) (0 ∷ 2 ∷ 0 ∷ 5 ∷ []) refl refl;
  held_back_in_time = worked_run back_computed (Tick ∷ Tick ∷ Tick ∷ Tick ∷ Tick ∷ Tick ∷ Tick ∷ Finish 1 ∷ Tick ∷ Tick ∷ Tick ∷ []) (0 ∷ 6 ∷ 10 ∷ []) refl refl;
  lip_lets_go = worked_run lip_computed (Tick ∷ Tick ∷ Tick ∷ Finish 1 ∷ Tick ∷ Tick ∷ Tick ∷ Tick ∷ Tick ∷ Tick ∷ []) (0 ∷ 0 ∷ 9 ∷ []) refl refl;
  slow_hand_in_time = worked_run slow_computed (Tick ∷ Tick ∷ Tick ∷ Tick ∷ Tick ∷ Tick ∷ Tick ∷ Finish 1 ∷ Tick ∷ Finish 1 ∷ []) (0 ∷ 0 ∷ 8 ∷ []) refl refl;
}
