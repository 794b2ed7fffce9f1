-- The invariant of a run: it holds after Begin, and each call keeps it.
--
-- A step cannot be late. Offsets are at least 0, so the last of its deciding steps finishes at a tick that is not above the planned one; and the planned tick of a step that has started no longer changes,
-- because all members of its start set have finished.
use mathlib.Core.Path.{◌≡◌, sym, ap, subst, ◌∙◌}
use mathlib.Core.Bool.{Bool, true, false, cond, not, ◌&&◌}
use mathlib.Core.Logic.{◌⊎◌, inl, inr, ◌≢◌}
use mathlib.Core.List.{List}
use Prim.Native.Nat.{ℕ, ◌+◌, ◌-◌, ◌*◌, ◌≤◌, ◌<◌}
use native.Mathlib.Omega.{arith}
use lib.ListN.{length, get_or}
use borrow.Author.Tests.{not-true}
use Rattle.definitions.specs.Limits.{most_steps}
use Rattle.definitions.specs.Basics.{any_below, test_bit}
use Rattle.definitions.specs.Bytes.{Records}
use Rattle.definitions.specs.Links.{Respects}
use Rattle.definitions.specs.Plan.{undecided}
use Rattle.definitions.specs.Answers.{count_of, leasts_of}
use Rattle.definitions.specs.Dispatcher.{entry, sweep}
use Rattle.definitions.specs.declared.State.{State}
use Rattle.laws.proofs.Bools.{bool_cases, both_ways, and_split, and_join, not_passing, cond_true, cond_false}
use Rattle.laws.proofs.Tests.{any_below_has, any_below_none}
use Rattle.demands.specs.Demands.{Accepted, Durations, in_start_set, sheet_offset, sheet_decides, our_start, term}
use Rattle.certificates.specs.Runs.{Starts, SweepFor, IsLent, Started, Finished, start_tick, finish_tick, reported, planned_tick, DecidersFinished, StateFor}
use Rattle.certificates.proofs.Sheets.{few_steps, decider_below, some_decider, member_decider, our_start_agrees, our_start_above, our_start_below, lent_entry, lent_apart}
use Rattle.certificates.proofs.Sweeps.{start_ticks_length, sweep_for}

-- Durations: the reported ones where a step has finished, others where it has not.
abbrev pub filled : State → (ℕ → ℕ) → ℕ → ℕ
filled st other a = cond (test_bit st.finished a) (reported st a) (other a)

-- What holds before the sweep of a call and after it.
pub record Timely (q : Records) (st : State) : Type 0 where
  pub state : StateFor q st
  pub starts_size : length st.start ≡ most_steps
  pub finishes_size : length st.finish ≡ most_steps
  pub members_finished : (a v : ℕ) → Started st v → in_start_set q a v ≡ true → Finished st a
  pub at_planned : (v : ℕ) → Started st v → start_tick st v ≡ planned_tick q st v

-- After it no step that could have started is left; and before it none is late.
pub record Invariant (q : Records) (st : State) : Type 0 where
  pub timely : Timely q st
  pub none_left : (v : ℕ) → v < count_of q → DecidersFinished q st v → planned_tick q st v ≤ st.tick → Started st v

pub record NotLate (q : Records) (st : State) : Type 0 where
  pub timely : Timely q st
  pub in_time : (v : ℕ) → v < count_of q → test_bit st.started v ≡ false → DecidersFinished q st v → st.tick ≤ planned_tick q st v

module _ {s : List ℕ} {allow : Bool} {q : Records} {w : ℕ} (accepted : Accepted s allow q w) where
  -- ## Any such state

  module _ {st : State} (timely : Timely q st) where
    -- Step 0 is reported to last 0.
    reported_source : reported st 0 ≡ 0
    reported_source = omega (arith, timely.state.source.3)

    -- Durations that are the reported ones where a step has finished, and any others from the leasts on where it has not, respect the leasts: 20 has seen to it where a step has finished.
    module _ (other : ℕ → ℕ) (enough : Respects q.steps other) where
      pub filled_finished : (a : ℕ) → Finished st a → filled st other a ≡ reported st a
      filled_finished a f = cond_true (reported st a) (other a) f

      pub filled_running : (a : ℕ) → test_bit st.finished a ≡ false → filled st other a ≡ other a
      filled_running a f = cond_false (reported st a) (other a) f

      pub filled_durations : Durations q (filled st other)
      filled_durations = record { source = filled_finished 0 timely.state.source.1 ∙ reported_source; respects = λ a. go a (bool_cases (test_bit st.finished a)) }
        where
          go : (a : ℕ) → (test_bit st.finished a ≡ true) ⊎ (test_bit st.finished a ≡ false) → leasts_of q a ≤ filled st other a
          go a (inl t) = omega (arith, filled_finished a t, timely.state.in_order a t)
          go a (inr f) = omega (arith, filled_running a f, enough a)

    -- The deciding steps have all finished, or one has not. By search.
    pub deciders_or_one : (v : ℕ) → v < count_of q → DecidersFinished q st v ⊎ ((a : ℕ) × (sheet_decides q a v ≡ true) × (test_bit st.finished a ≡ false))
    deciders_or_one v b = go (bool_cases (any_below unfinished (count_of q)))
      where
        unfinished : ℕ → Bool
        unfinished a = sheet_decides q a v && not (test_bit st.finished a)

        done : any_below unfinished (count_of q) ≡ false → (a : ℕ) → sheet_decides q a v ≡ true → (test_bit st.finished a ≡ true) ⊎ (test_bit st.finished a ≡ false) → Finished st a
        done n a k (inl t) = t
        done n a k (inr f) = absurd (both_ways (and_join k (ap not f)) (any_below_none unfinished (count_of q) n a (decider_below accepted a v b k)))

        go : (any_below unfinished (count_of q) ≡ true) ⊎ (any_below unfinished (count_of q) ≡ false) → DecidersFinished q st v ⊎ ((a : ℕ) × (sheet_decides q a v ≡ true) × (test_bit st.finished a ≡ false))
        go (inl t) =
            let r = any_below_has unfinished (count_of q) t in
            let k = and_split (sheet_decides q r.0 v) (not (test_bit st.finished r.0)) r.2 in
            inr (r.0, k.0, not-true (test_bit st.finished r.0) k.1)
        go (inr n) = inl (λ a k. done n a k (bool_cases (test_bit st.finished a)))

    -- Where the deciding steps have finished, all members have.
    pub all_finished : (v : ℕ) → v < count_of q → DecidersFinished q st v → (a : ℕ) → in_start_set q a v ≡ true → Finished st a
    all_finished v b D a h =
        let r = member_decider accepted a v b h in
        go r.0 (D r.0 r.1) r.2
      where
        go : (c : ℕ) → Finished st c → (a ≡ c) ⊎ (in_start_set q a c ≡ true) → Finished st a
        go c f (inl e) = subst (Finished st) (sym e) f
        go c f (inr i) = timely.members_finished a c (timely.state.finished_started c f) i

    -- Durations that agree on what has finished give the same planned tick, once the members have finished.
    pub planned_agrees : (d : ℕ → ℕ) → ((a : ℕ) → Finished st a → d a ≡ reported st a) → (v : ℕ) → v < count_of q → ((a : ℕ) → in_start_set q a v ≡ true → Finished st a) → our_start q d v ≡ planned_tick q st v
    planned_agrees d same v b F = our_start_agrees accepted d (reported st) v b (λ a i. same a (F a i))

    -- Once the deciding steps have finished, the planned tick is the largest of their finish ticks plus their offsets: our start for durations that respect the leasts is.
    abbrev at_leasts : ℕ → ℕ
    at_leasts = filled st (leasts_of q)

    respected : Durations q at_leasts
    respected = filled_durations (leasts_of q) (λ a. omega arith)

    finished_as : (a : ℕ) → Finished st a → at_leasts a ≡ reported st a
    finished_as = filled_finished (leasts_of q) (λ a. omega arith)

    planned_as : (v : ℕ) → v < count_of q → DecidersFinished q st v → our_start q at_leasts v ≡ planned_tick q st v
    planned_as v b D = planned_agrees at_leasts finished_as v b (all_finished v b D)

    -- The term of a step that has finished is its finish tick plus the offset.
    finished_term : (a v : ℕ) → Finished st a → term q at_leasts v a ≡ finish_tick st a + sheet_offset q a v
    finished_term a v f =
        let h = timely.state.finished_started a f in
        let e = planned_agrees at_leasts finished_as a (timely.state.only_steps a h) (λ c i. timely.members_finished c a h i) in
        omega (arith, e, timely.at_planned a h, finished_as a f, timely.state.in_order a f)

    pub planned_above : (a v : ℕ) → v < count_of q → DecidersFinished q st v → sheet_decides q a v ≡ true → finish_tick st a + sheet_offset q a v ≤ planned_tick q st v
    planned_above a v b D k = omega (arith, our_start_above accepted at_leasts respected a v b k, planned_as v b D, finished_term a v (D a k))

    pub planned_below : (v x : ℕ) → v < count_of q → DecidersFinished q st v → ((a : ℕ) → sheet_decides q a v ≡ true → finish_tick st a + sheet_offset q a v ≤ x) → planned_tick q st v ≤ x
    planned_below v x b D h = omega (arith, our_start_below accepted at_leasts respected v x b (λ a k. omega (arith, finished_term a v (D a k), h a k)), planned_as v b D)

  -- ## The sweep

  module _ {st : State} {table : List ℕ} (lent : IsLent q table) (before : NotLate q st) where
    timely : Timely q st
    timely = before.timely

    facts : StateFor q st
    facts = before.timely.state

    abbrev after : State
    after = (sweep st table).state

    -- The rule, in document 01's words.
    rule : SweepFor st table
    rule = sweep_for st table (omega (arith, timely.starts_size, facts.count, few_steps accepted))

    -- A row of the plan names the deciding steps, with their offsets.
    entry_of : (v a : ℕ) → v < count_of q → a < count_of q → entry st table v a ≡ cond (sheet_decides q a v) (sheet_offset q a v) undecided
    unfolding entry
    entry_of v a b c = ap (λ (n : ℕ). get_or table (v * n + a) 0) facts.count ∙ lent_entry accepted lent v a b c

    entry_decides : (v a : ℕ) → v < count_of q → sheet_decides q a v ≡ true → entry st table v a ≡ sheet_offset q a v
    entry_decides v a b h = entry_of v a b (decider_below accepted a v b h) ∙ cond_true (sheet_offset q a v) undecided h

    decides_named : (v a : ℕ) → v < count_of q → sheet_decides q a v ≡ true → entry st table v a ≢ undecided
    decides_named v a b h e = omega (arith, e, entry_decides v a b h, lent_apart accepted lent v a b h)

    named_decides : (v a : ℕ) → v < count_of q → a < count_of q → entry st table v a ≢ undecided → sheet_decides q a v ≡ true
    named_decides v a b c z = go (bool_cases (sheet_decides q a v))
      where
        go : (sheet_decides q a v ≡ true) ⊎ (sheet_decides q a v ≡ false) → sheet_decides q a v ≡ true
        go (inl t) = t
        go (inr f) = absurd (z (entry_of v a b c ∙ cond_false (sheet_offset q a v) undecided f))

    below : (v : ℕ) → v < st.n → v < count_of q
    below v b = omega (arith, facts.count)

    -- A step that starts: its deciding steps have finished, and its planned tick is the tick.
    starts_decided : (v : ℕ) → Starts st table v → (a : ℕ) → sheet_decides q a v ≡ true → Finished st a × (finish_tick st a + sheet_offset q a v ≤ st.tick)
    starts_decided v S a k =
        let b = below v S.exists in
        let r = S.each a (omega (arith, decider_below accepted a v b k, facts.count)) (decides_named v a b k) in
        (r.0, omega (arith, r.1, entry_decides v a b k))

    starts_planned : (v : ℕ) → Starts st table v → planned_tick q st v ≡ st.tick
    starts_planned v S =
        let b = below v S.exists in
        let D : DecidersFinished q st v = λ a k. (starts_decided v S a k).0 in
        let low : planned_tick q st v ≤ st.tick = planned_below timely v st.tick b D (λ a k. (starts_decided v S a k).1) in
        let high : st.tick ≤ planned_tick q st v = before.in_time v b S.not_yet D in
        omega arith

    -- And a step that has not started starts where its deciding steps have finished and its planned tick is not above the tick.
    planned_starts : (v : ℕ) → v < count_of q → test_bit st.started v ≡ false → DecidersFinished q st v → planned_tick q st v ≤ st.tick → Starts st table v
    planned_starts v b f D l =
        let r = some_decider accepted v b in
        record { exists = omega (arith, facts.count); not_yet = f; some = (r.0, omega (arith, decider_below accepted r.0 v b r.1, facts.count), decides_named v r.0 b r.1); each = λ a c z. each a (named_decides v a b (below a c) z) }
      where
        each : (a : ℕ) → sheet_decides q a v ≡ true → Finished st a × (finish_tick st a + entry st table v a ≤ st.tick)
        each a k = (D a k, omega (arith, planned_above timely a v b D k, entry_decides v a b k))

    -- What the sweep does to a step: it had started, starts now, or has not started.
    data Step (v : ℕ) : Type 0 where
      earlier : Started st v → Started after v → start_tick after v ≡ start_tick st v → Step v
      now : Starts st table v → Started after v → start_tick after v ≡ st.tick → Step v
      not_yet : test_bit st.started v ≡ false → ¬ Starts st table v → test_bit after.started v ≡ false → start_tick after v ≡ start_tick st v → Step v

    kept : (v : ℕ) → Started st v → Started after v × (start_tick after v ≡ start_tick st v)
    kept v h = ((rule.started v).1 (inl h), rule.others v (λ S. both_ways h S.not_yet))

    step_of : (v : ℕ) → Step v
    step_of v = go (bool_cases (test_bit (sweep st table).map v)) (bool_cases (test_bit st.started v))
      where
        none : test_bit st.started v ≡ false → ¬ Starts st table v → Started st v ⊎ Starts st table v → ⊥
        none f n (inl t) = both_ways t f
        none f n (inr S) = n S

        go : (test_bit (sweep st table).map v ≡ true) ⊎ (test_bit (sweep st table).map v ≡ false) → (test_bit st.started v ≡ true) ⊎ (test_bit st.started v ≡ false) → Step v
        go (inl m) k = let S = (rule.map v).0 m in now S ((rule.started v).1 (inr S)) (rule.now v S)
        go (inr m) (inl t) = let k = kept v t in earlier t k.0 k.1
        go (inr m) (inr f) =
            let n : ¬ Starts st table v = λ S. both_ways ((rule.map v).1 S) m in
            not_yet f n (not_passing (test_bit after.started v) (λ t. none f n ((rule.started v).0 t))) (rule.others v n)

    -- No reported duration changes: a step that starts now has not finished.
    same_reported : (a : ℕ) → reported after a ≡ reported st a
    unfolding sweep
    same_reported a = go (step_of a)
      where
        go : Step a → finish_tick st a - start_tick after a ≡ finish_tick st a - start_tick st a
        go (earlier h k e) = ap (λ (x : ℕ). finish_tick st a - x) e
        go (now S k e) =
            let z : finish_tick st a ≡ 0 = facts.not_finished a (not_passing (test_bit st.finished a) (λ f. both_ways (facts.finished_started a f) S.not_yet)) in
            omega arith
        go (not_yet f n k e) = ap (λ (x : ℕ). finish_tick st a - x) e

    same_planned : (v : ℕ) → v < count_of q → planned_tick q after v ≡ planned_tick q st v
    same_planned v b = our_start_agrees accepted (reported after) (reported st) v b (λ a i. same_reported a)

    after_state : StateFor q after
    unfolding sweep
    after_state = record {
      count = facts.count;
      open_map = facts.open_map;
      leasts = facts.leasts;
      clock = facts.clock;
      source = ((kept 0 facts.source.0).0, facts.source.1, (kept 0 facts.source.0).1 ∙ facts.source.2, facts.source.3);
      only_steps = λ v h. only v h (step_of v);
      finished_started = λ v f. (kept v (facts.finished_started v f)).0;
      finished_open = facts.finished_open;
      in_order = λ v f. omega (arith, facts.in_order v f, (kept v (facts.finished_started v f)).1);
      starts_past = λ v. past v (step_of v);
      finishes_past = facts.finishes_past;
      not_started = λ v f. unset v f (step_of v);
      not_finished = facts.not_finished;
    }
      where
        only : (v : ℕ) → Started (sweep st table).state v → Step v → v < count_of q
        only v h (earlier t k e) = facts.only_steps v t
        only v h (now S k e) = below v S.exists
        only v h (not_yet f n k e) = absurd (both_ways h k)

        past : (v : ℕ) → Step v → start_tick (sweep st table).state v ≤ st.tick
        past v (earlier t k e) = omega (arith, e, facts.starts_past v)
        past v (now S k e) = omega (arith, e)
        past v (not_yet f n k e) = omega (arith, e, facts.starts_past v)

        unset : (v : ℕ) → test_bit (sweep st table).state.started v ≡ false → Step v → start_tick (sweep st table).state v ≡ 0
        unset v h (earlier t k e) = absurd (both_ways k h)
        unset v h (now S k e) = absurd (both_ways k h)
        unset v h (not_yet f n k e) = e ∙ facts.not_started v f

    -- Every step that a sweep starts, it starts at its planned tick, and it starts all that can start.
    pub swept : Invariant q (sweep st table).state
    unfolding sweep
    swept = record {
      timely = record {
        state = after_state;
        starts_size = start_ticks_length st table st.n ∙ timely.starts_size;
        finishes_size = timely.finishes_size;
        members_finished = λ a v h i. finishes a v h i (step_of v);
        at_planned = λ v h. planned v h (step_of v);
      };
      none_left = λ v b D l. left v b D (omega (arith, l, same_planned v b)) (step_of v);
    }
      where
        finishes : (a v : ℕ) → Started (sweep st table).state v → in_start_set q a v ≡ true → Step v → Finished st a
        finishes a v h i (earlier t k e) = timely.members_finished a v t i
        finishes a v h i (now S k e) = all_finished timely v (below v S.exists) (λ c j. (starts_decided v S c j).0) a i
        finishes a v h i (not_yet f n k e) = absurd (both_ways h k)

        planned : (v : ℕ) → Started (sweep st table).state v → Step v → start_tick (sweep st table).state v ≡ planned_tick q (sweep st table).state v
        planned v h (earlier t k e) = e ∙ timely.at_planned v t ∙ sym (same_planned v (facts.only_steps v t))
        planned v h (now S k e) = e ∙ sym (starts_planned v S) ∙ sym (same_planned v (below v S.exists))
        planned v h (not_yet f n k e) = absurd (both_ways h k)

        left : (v : ℕ) → v < count_of q → DecidersFinished q st v → planned_tick q st v ≤ st.tick → Step v → Started (sweep st table).state v
        left v b D l (earlier t k e) = k
        left v b D l (now S k e) = k
        left v b D l (not_yet f n k e) = absurd (n (planned_starts v b f D l))
