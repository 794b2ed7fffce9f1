-- The three calls, refusal by refusal: what each early return shows, and what an accepted call returns. Assumes nothing.
use mathlib.Core.Path.{◌≡◌, refl, ap, ap₂, ◌∙◌, subst}
use Rattle.std.specs.Prelude.{Err, Ok}
use mathlib.Core.Bool.{Bool, true, false, not, ◌||◌}
use mathlib.Core.List.{List}
use Prim.Native.Nat.{ℕ, ◌*◌, ◌^◌, ◌≤◌, ◌<◌}
use lib.Bits.{bit_or}
use lib.Dec.{eqb, leb, ltb}
use lib.ListN.{length, set, replicate}
use borrow.Author.Tests.{ltb-false, leb-true, leb-false, lt-ltb, le-ltb, le-leb, lt-leb, eq-eqb, ne_eqb, not-false}
use Rattle.definitions.specs.Basics.{test_bit, Outcome, given, refused, refuse_if}
use Rattle.definitions.specs.Limits.{last_tick, most_steps}
use Rattle.definitions.specs.Numbers.{number, status_of}
use Rattle.definitions.specs.Answers.{bad_count, too_short}
use Rattle.definitions.specs.Dispatcher.{Progress, sweep, begun, not_running, kept_leasts, fresh, with_source, begin, ticked, tick, cannot_finish, too_early, ended, finish, state_after, map_after, Returns}
use Rattle.definitions.specs.declared.State.{State}
use Rattle.definitions.specs.declared.Dispatch.{Dispatch}
use Rattle.definitions.specs.declared.Refusal.{Refusal}
use Rattle.laws.proofs.Bools.{and_split, or_neither}
use Rattle.run_release.specs.Sweeps.{Room, Swept}
use Rattle.run_calls.specs.Calls.{too_little}

-- A disjunction whose first part fails is its second.
pub or_past : {a : Bool} (b : Bool) → a ≡ false → (a || b) ≡ b
or_past b h = rw h

-- The count.
pub count_low : (n : ℕ) → n < 1 → true ≡ bad_count n
unfolding bad_count
count_low n h = rw (lt-leb 1 n h)

pub count_high : (n : ℕ) → 1 ≤ n → ltb most_steps n ≡ bad_count n
unfolding bad_count
count_high n h = rw (le-leb 1 n h) (go (leb n most_steps) refl)
  where
    go : (t : Bool) → leb n most_steps ≡ t → ltb most_steps n ≡ not t
    go true e = let l : n ≤ most_steps = leb-true n most_steps e in le-ltb most_steps n l
    go false e = let l : most_steps < n = leb-false n most_steps e in lt-ltb most_steps n l

pub count_fits : (n : ℕ) → bad_count n ≡ false → n ≤ most_steps
unfolding bad_count
count_fits n h = leb-true n most_steps (and_split (leb 1 n) (leb n most_steps) (not-false _ h)).1

-- A table that is not refused 14.
pub long_enough : (table : List ℕ) (size : ℕ) → too_short table size ≡ false → size ≤ length table
unfolding too_short
long_enough table size h = ltb-false (length table) size h

-- 15.
pub running_count : (st : State) → not_running st ≡ false → st.n ≤ most_steps
unfolding not_running
running_count st h = count_fits st.n ((or_neither (not (begun st)) (bad_count st.n)).0 h).1

-- What is not refused 17 exists.
pub finishable_below : (st : State) (s : ℕ) → cannot_finish st s ≡ false → s < st.n
unfolding cannot_finish
finishable_below st s h =
    let running = ((or_neither _ (test_bit st.finished s)).0 h).0 in
    let lasting = ((or_neither _ (not (test_bit st.started s))).0 running).0 in
    let named = ((or_neither (eqb s 0 || leb st.n s) (not (test_bit st.unbounded s))).0 lasting).0 in
    leb-false st.n s ((or_neither (eqb s 0) (leb st.n s)).0 named).1

-- The first of the refusals left, or past it.
refuse_here : {A : Type 0} {b : Bool} (k : ℕ) (rest : Outcome A) → b ≡ true → refused k ≡ refuse_if b k rest
unfolding refuse_if
refuse_here k rest h = rw h

refuse_past : {A : Type 0} {b : Bool} (k : ℕ) {o rest : Outcome A} → b ≡ false → o ≡ rest → o ≡ refuse_if b k rest
unfolding refuse_if
refuse_past k h e = rw h e

-- What is returned where the outcome is known by an equation.
pub returns_as : {st : State} {o p : Outcome Progress} {r : Dispatch} → Returns st o r → o ≡ p → Returns st p r
returns_as {st} {r = r} R e = subst (λ x. Returns st x r) e R

-- A refusal by computing, and an accepted call field by field.
pub refusal_returns : (st : State) (why : Refusal) → Returns st (refused (number why)) (record { status = Err why; state = st; map = 0 })
unfolding state_after map_after
refusal_returns st why = record { answer = refl; state = refl; map = refl }

pub accepted : {st : State} {r : Dispatch} {g : Progress} → r.status ≡ (Ok tt) → r.state ≡ g.state → r.map ≡ g.map → Returns st (given g) r
unfolding state_after map_after
accepted {st} {r} {g} d s m =
    record { answer = ap (λ x. status_of x (record { state = r.state; map = r.map })) d ∙ ap₂ (λ x y. given (record { state = x; map = y })) s m; state = s; map = m }

-- After a sweep; and after Begin's, which has started step 0 too.
pub swept_given : {st next state : State} {table : List ℕ} {r : Dispatch} {o : Outcome Progress} → Swept next table r → next ≡ state → given (sweep state table) ≡ o → Returns st o r
swept_given {table = table} {r} S n e =
    let T = subst (λ x. Swept x table r) n S in
    returns_as (accepted T.status T.state T.map) e

pub swept_source : {st next state : State} {table : List ℕ} {r : Dispatch} {o : Outcome Progress} → Swept next table r → next ≡ state → given (with_source (sweep state table)) ≡ o → Returns st o (record { status = r.status; state = r.state; map = bit_or 1 r.map })
unfolding with_source
swept_source {table = table} {r} S n e =
    let T = subst (λ x. Swept x table r) n S in
    returns_as (accepted T.status T.state (ap (bit_or 1) T.map)) e

-- What a sweep asks of the state that it is given.
pub room : {next state : State} (table : List ℕ) → next ≡ state → state.n ≤ most_steps → state.n * state.n ≤ length table → Room next table
room table e h k = rw e (record { few = h; long = k })

-- The state anew, with the least durations that are kept.
pub fresh_with : (n unbounded : ℕ) (leasts : List ℕ) {least : List ℕ} → least ≡ kept_leasts n leasts → record { n = n; unbounded = unbounded; tick = 0; started = 1; finished = 1; start = replicate most_steps 0; finish = replicate most_steps 0; least = least } ≡ fresh n unbounded leasts
unfolding fresh
fresh_with n unbounded leasts e = ap (λ (l : List ℕ). record { n = n; unbounded = unbounded; tick = 0; started = 1; finished = 1; start = replicate most_steps 0; finish = replicate most_steps 0; least = l }) e

-- One bit more in the map of the finished.
pub ended_now : (st : State) (s : ℕ) {p : ℕ} → p ≡ 2 ^ s → record { n = st.n; unbounded = st.unbounded; tick = st.tick; started = st.started; finished = bit_or st.finished p; start = st.start; finish = set st.finish s st.tick; least = st.least } ≡ ended st s
unfolding ended
ended_now st s e = ap (λ x. record { n = st.n; unbounded = st.unbounded; tick = st.tick; started = st.started; finished = bit_or st.finished x; start = st.start; finish = set st.finish s st.tick; least = st.least }) e

-- Begin checks 16, 2, 14. What passes 14 has lent a table that is long enough, and a least duration for each step.
pub table_enough : (n : ℕ) (leasts table : List ℕ) → too_little n leasts table ≡ false → n * n ≤ length table
table_enough n leasts table h = long_enough table (n * n) ((or_neither (too_short table (n * n)) (too_short leasts n)).0 h).0

pub leasts_enough : (n : ℕ) (leasts table : List ℕ) → too_little n leasts table ≡ false → n ≤ length leasts
leasts_enough n leasts table h = long_enough leasts n ((or_neither (too_short table (n * n)) (too_short leasts n)).0 h).1

module _ (st : State) (n unbounded : ℕ) (leasts table : List ℕ) where
  pub begin_begun : test_bit st.started 0 ≡ true → refused 16 ≡ begin st n unbounded leasts table
  unfolding begin begun
  begin_begun h = refuse_here 16 _ h

  pub begin_count : test_bit st.started 0 ≡ false → bad_count n ≡ true → refused 2 ≡ begin st n unbounded leasts table
  unfolding begin begun
  begin_count h k = refuse_past 16 h (refuse_here 2 _ k)

  pub begin_short : test_bit st.started 0 ≡ false → bad_count n ≡ false → too_little n leasts table ≡ true → refused 14 ≡ begin st n unbounded leasts table
  unfolding begin begun
  begin_short h k l = refuse_past 16 h (refuse_past 2 k (refuse_here 14 _ l))

  pub begin_given : test_bit st.started 0 ≡ false → bad_count n ≡ false → too_little n leasts table ≡ false → given (with_source (sweep (fresh n unbounded leasts) table)) ≡ begin st n unbounded leasts table
  unfolding begin begun
  begin_given h k l = refuse_past 16 h (refuse_past 2 k (refuse_past 14 l refl))

-- Tick checks 15, 14, 18.
module _ (st : State) (table : List ℕ) where
  pub tick_idle : not_running st ≡ true → refused 15 ≡ tick st table
  unfolding tick
  tick_idle h = refuse_here 15 _ h

  pub tick_short : not_running st ≡ false → too_short table (st.n * st.n) ≡ true → refused 14 ≡ tick st table
  unfolding tick
  tick_short h k = refuse_past 15 h (refuse_here 14 _ k)

  pub tick_end : not_running st ≡ false → too_short table (st.n * st.n) ≡ false → st.tick ≡ last_tick → refused 18 ≡ tick st table
  unfolding tick
  tick_end h k l = refuse_past 15 h (refuse_past 14 k (refuse_here 18 _ (eq-eqb st.tick last_tick l)))

  pub tick_given : not_running st ≡ false → too_short table (st.n * st.n) ≡ false → (st.tick ≡ last_tick → ⊥) → given (sweep (ticked st) table) ≡ tick st table
  unfolding tick
  tick_given h k l = refuse_past 15 h (refuse_past 14 k (refuse_past 18 (ne_eqb st.tick last_tick l) refl))

-- Finish checks 15, 14, 17, 20.
module _ (st : State) (s : ℕ) (table : List ℕ) where
  pub finish_idle : not_running st ≡ true → refused 15 ≡ finish st s table
  unfolding finish
  finish_idle h = refuse_here 15 _ h

  pub finish_short : not_running st ≡ false → too_short table (st.n * st.n) ≡ true → refused 14 ≡ finish st s table
  unfolding finish
  finish_short h k = refuse_past 15 h (refuse_here 14 _ k)

  pub finish_cannot : not_running st ≡ false → too_short table (st.n * st.n) ≡ false → cannot_finish st s ≡ true → refused 17 ≡ finish st s table
  unfolding finish
  finish_cannot h k l = refuse_past 15 h (refuse_past 14 k (refuse_here 17 _ l))

  pub finish_early : not_running st ≡ false → too_short table (st.n * st.n) ≡ false → cannot_finish st s ≡ false → too_early st s ≡ true → refused 20 ≡ finish st s table
  unfolding finish
  finish_early h k l m = refuse_past 15 h (refuse_past 14 k (refuse_past 17 l (refuse_here 20 _ m)))

  pub finish_given : not_running st ≡ false → too_short table (st.n * st.n) ≡ false → cannot_finish st s ≡ false → too_early st s ≡ false → given (sweep (ended st s) table) ≡ finish st s table
  unfolding finish
  finish_given h k l m = refuse_past 15 h (refuse_past 14 k (refuse_past 17 l (refuse_past 20 m refl)))
