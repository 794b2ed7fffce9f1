-- Each call keeps the invariant of a run: Tick, Finish, and Begin, which a run that has begun refuses. A refused call changes nothing.
use mathlib.Core.Path.{◌≡◌, refl, sym, ap, subst, ◌∙◌}
use mathlib.Core.Bool.{Bool, true, false, not, ◌||◌}
use mathlib.Core.Logic.{◌⊎◌, inl, inr, ◌≢◌}
use mathlib.Core.List.{List}
use Prim.Native.Nat.{ℕ, ◌+◌, ◌-◌, ◌≤◌, ◌<◌}
use native.Mathlib.Omega.{arith}
use native.Mathlib.Decide.{dec_le, dec_lt}
use lib.Dec.{eqb, leb}
use lib.ListN.{get_or, length-set, length-replicate}
use borrow.Author.Tests.{eqb-true, eqb-false, leb-false, ltb-false, not-false}
use Rattle.definitions.specs.Limits.{most_steps, last_tick}
use Rattle.definitions.specs.Basics.{test_bit, Outcome, given, refused}
use Rattle.definitions.specs.Bytes.{Records}
use Rattle.definitions.specs.Links.{delay_at}
use Rattle.definitions.specs.Answers.{count_of, leasts_of}
use Rattle.definitions.specs.Dispatcher.{Progress, begun, kept_leasts, fresh, with_source, begin, ticked, cannot_finish, too_early, ended, called, state_after}
use Rattle.definitions.specs.declared.Call.{Call}
use Rattle.definitions.specs.declared.State.{State}
use Rattle.definitions.specs.declared.Delay.TheVariants.{Open}
use Rattle.laws.proofs.Bools.{bool_cases, both_ways, not_passing, same_or_not, or_neither}
use Rattle.laws.proofs.Lists.{zeros_at}
use Rattle.laws.proofs.Maps.{test_pow}
use Rattle.theory.proofs.DelayLimits.{least_source, least_past}
use Rattle.demands.specs.Demands.{Accepted, in_start_set, sheet_decides, our_start}
use Rattle.certificates.specs.Runs.{IsOpenMap, AreLeasts, IsLent, Run, begins, goes_on, Started, Finished, start_tick, finish_tick, reported, planned_tick, DecidersFinished, StateFor, CanFinish, least_end}
use Rattle.certificates.proofs.Sheets.{some_steps, few_steps, source_member, our_start_source}
use Rattle.certificates.proofs.Changes.{ended_finished, ended_still, ended_own, ended_own_tick, ended_other_tick, kept_at, kept_past, Given, begins_anew, ticks_on, ends, begin_gives, call_gives}
use Rattle.certificates.proofs.Invariants.{Timely, Invariant, NotLate, all_finished, planned_agrees, planned_above, swept}

-- What has finished is not the step that can finish.
pub finished_other : {q : Records} {st : State} {x : ℕ} → CanFinish q st x → (v : ℕ) → Finished st v → v ≢ x
finished_other {st = st} can v h e = both_ways (subst (Finished st) e h) can.running

module _ {s : List ℕ} {allow : Bool} {q : Records} {w : ℕ} (accepted : Accepted s allow q w) where
  -- ## Begin

  -- Only step 0 has started and finished, at tick 0.
  only_source : (v : ℕ) → test_bit 1 v ≡ true → v ≡ 0
  only_source v h = eqb-true v 0 (sym (test_pow 0 v) ∙ h)

  source_set : test_bit 1 0 ≡ true
  source_set = test_pow 0 0

  -- The least durations in the state are the sheet's, also past the steps that there are.
  fresh_leasts : (leasts : List ℕ) → AreLeasts q leasts → (v : ℕ) → get_or (kept_leasts (count_of q) leasts) v 0 ≡ leasts_of q v
  fresh_leasts leasts are v = go (dec_lt v (count_of q))
    where
      go : Dec (v < count_of q) → get_or (kept_leasts (count_of q) leasts) v 0 ≡ leasts_of q v
      go (yes b) = kept_at (count_of q) leasts v are.long b ∙ are.each v b
      go (no b) = kept_past (count_of q) leasts v are.long (omega arith) ∙ sym (least_past q.steps v (omega arith))

  fresh_in_time : (unbounded : ℕ) (leasts : List ℕ) → IsOpenMap q unbounded → AreLeasts q leasts → NotLate q (fresh (count_of q) unbounded leasts)
  unfolding fresh
  fresh_in_time unbounded leasts opens are = record {
    timely = record {
      state = record {
        count = refl;
        open_map = opens;
        leasts = fresh_leasts leasts are;
        clock = omega arith;
        source = (source_set, source_set, refl, refl);
        only_steps = λ v h. omega (arith, only_source v h, some_steps accepted);
        finished_started = λ v h. h;
        finished_open = λ v h. inl (only_source v h);
        in_order = λ v h. omega (arith, zeros_at most_steps v, ap (leasts_of q) (only_source v h), least_source q.steps);
        starts_past = λ v. omega (arith, zeros_at most_steps v);
        finishes_past = λ v. omega (arith, zeros_at most_steps v);
        not_started = λ v f. zeros_at most_steps v;
        not_finished = λ v f. zeros_at most_steps v;
      };
      starts_size = length-replicate {A = ℕ} most_steps 0;
      finishes_size = length-replicate {A = ℕ} most_steps 0;
      members_finished = λ a v h i. subst (λ (x : ℕ). test_bit 1 x ≡ true) (sym (source_member accepted a (subst (λ (x : ℕ). in_start_set q a x ≡ true) (only_source v h) i))) source_set;
      at_planned = λ v h. zeros_at most_steps v ∙ sym (ap (our_start q (reported (fresh (count_of q) unbounded leasts))) (only_source v h) ∙ our_start_source accepted (reported (fresh (count_of q) unbounded leasts)));
    };
    in_time = λ v b f D. omega arith;
  }

  pub begin_keeps : (before : State) (unbounded : ℕ) (leasts table : List ℕ) (g : Progress) → IsOpenMap q unbounded → AreLeasts q leasts → IsLent q table → begin before (count_of q) unbounded leasts table ≡ given g → Invariant q g.state
  begin_keeps before unbounded leasts table g opens are lent h =
      subst (λ (x : Progress). Invariant q x.state) (sym (begin_gives before (count_of q) unbounded leasts table g h)) (unfold with_source in swept accepted lent (fresh_in_time unbounded leasts opens are))

  module _ {st : State} (before : Invariant q st) where
    timely : Timely q st
    timely = before.timely

    facts : StateFor q st
    facts = before.timely.state

    -- Where the deciding steps of a step that has not started have all finished, its planned tick is still to come.
    pub still : (v : ℕ) → v < count_of q → test_bit st.started v ≡ false → DecidersFinished q st v → st.tick < planned_tick q st v
    still v b f D = go (dec_le (planned_tick q st v) st.tick)
      where
        go : Dec (planned_tick q st v ≤ st.tick) → st.tick < planned_tick q st v
        go (yes l) = absurd (both_ways (before.none_left v b D l) f)
        go (no l) = omega arith

    -- ## Tick

    -- So when the tick grows by one, none is late.
    ticked_in_time : st.tick ≢ last_tick → NotLate q (ticked st)
    unfolding ticked
    ticked_in_time z = record {
      timely = record {
        state = record {
          count = facts.count;
          open_map = facts.open_map;
          leasts = facts.leasts;
          clock = clock (same_or_not st.tick last_tick);
          source = facts.source;
          only_steps = facts.only_steps;
          finished_started = facts.finished_started;
          finished_open = facts.finished_open;
          in_order = facts.in_order;
          starts_past = λ v. omega (arith, facts.starts_past v);
          finishes_past = λ v. omega (arith, facts.finishes_past v);
          not_started = facts.not_started;
          not_finished = facts.not_finished;
        };
        starts_size = timely.starts_size;
        finishes_size = timely.finishes_size;
        members_finished = timely.members_finished;
        at_planned = timely.at_planned;
      };
      in_time = λ v b f D. omega (arith, still v b f D);
    }
      where
        clock : (st.tick ≡ last_tick) ⊎ (st.tick ≢ last_tick) → st.tick + 1 ≤ last_tick
        clock (inl e) = absurd (z e)
        clock (inr n) = omega (arith, facts.clock)

    -- ## Finish

    -- Where the refusal 17 does not apply, the step can finish.
    pub can_finish : (x : ℕ) → cannot_finish st x ≡ false → CanFinish q st x
    unfolding cannot_finish
    can_finish x can =
        let a = eqb x 0 in
        let b = leb st.n x in
        let c = not (test_bit st.unbounded x) in
        let d = not (test_bit st.started x) in
        let e = test_bit st.finished x in
        let r₁ = (or_neither (a || b || c || d) e).0 can in
        let r₂ = (or_neither (a || b || c) d).0 r₁.0 in
        let r₃ = (or_neither (a || b) c).0 r₂.0 in
        let r₄ = (or_neither a b).0 r₃.0 in
        let z : x ≢ 0 = eqb-false x 0 r₄.0 in
        let l : x < count_of q = omega (arith, leb-false st.n x r₄.1, facts.count) in
        record { exists = l; not_source = z; lasts = (facts.open_map.stands x (omega arith) l).0 (not-false (test_bit st.unbounded x) r₃.1); started = not-false (test_bit st.started x) r₂.1; running = r₁.1 }

    -- And where 20 does not, its least duration has run out.
    pub late_enough : (x : ℕ) → too_early st x ≡ false → least_end q st x ≤ st.tick
    unfolding too_early
    late_enough x late = omega (arith, ltb-false st.tick (start_tick st x + get_or st.least x 0) late, facts.leasts x)

    module _ (x : ℕ) (can : cannot_finish st x ≡ false) (late : too_early st x ≡ false) where
      finishes : CanFinish q st x
      finishes = can_finish x can

      abbrev next : State
      next = ended st x

      own_tick : finish_tick next x ≡ st.tick
      own_tick = ended_own_tick st x (omega (arith, finishes.exists, few_steps accepted, timely.finishes_size))

      -- The reported durations of the others stay; so the planned ticks of steps whose members have all finished stay.
      others_reported : (a : ℕ) → Finished st a → reported next a ≡ reported st a
      unfolding ended
      others_reported a h = ap (λ (y : ℕ). y - start_tick st a) (ended_other_tick st x a (finished_other finishes a h))

      others_planned : (v : ℕ) → v < count_of q → ((a : ℕ) → in_start_set q a v ≡ true → Finished st a) → planned_tick q next v ≡ planned_tick q st v
      others_planned = planned_agrees accepted timely (reported next) others_reported

      next_state : StateFor q next
      unfolding ended
      next_state = record {
        count = facts.count;
        open_map = facts.open_map;
        leasts = facts.leasts;
        clock = facts.clock;
        source = (facts.source.0, ended_still st x 0 facts.source.1, facts.source.2, ended_other_tick st x 0 (finished_other finishes 0 facts.source.1) ∙ facts.source.3);
        only_steps = facts.only_steps;
        finished_started = λ v h. started v (ended_finished st x v h);
        finished_open = λ v h. lasts v (ended_finished st x v h);
        in_order = λ v h. ordered v (ended_finished st x v h);
        starts_past = facts.starts_past;
        finishes_past = λ v. past v (same_or_not v x);
        not_started = facts.not_started;
        not_finished = λ v f. ended_other_tick st x v (λ e. both_ways (subst (Finished (ended st x)) (sym e) (ended_own st x)) f) ∙ facts.not_finished v (not_passing (test_bit st.finished v) (λ t. both_ways (ended_still st x v t) f));
      }
        where
          started : (v : ℕ) → Finished st v ⊎ (v ≡ x) → Started st v
          started v (inl h) = facts.finished_started v h
          started v (inr e) = subst (Started st) (sym e) finishes.started

          lasts : (v : ℕ) → Finished st v ⊎ (v ≡ x) → (v ≡ 0) ⊎ (delay_at q.steps v ≡ Open)
          lasts v (inl h) = facts.finished_open v h
          lasts v (inr e) = inr (subst (λ (i : ℕ). delay_at q.steps i ≡ Open) (sym e) finishes.lasts)

          ordered : (v : ℕ) → Finished st v ⊎ (v ≡ x) → least_end q st v ≤ finish_tick (ended st x) v
          ordered v (inl h) = omega (arith, facts.in_order v h, ended_other_tick st x v (finished_other finishes v h))
          ordered v (inr e) = omega (arith, ap (least_end q st) e, late_enough x late, ap (finish_tick (ended st x)) e, own_tick)

          past : (v : ℕ) → (v ≡ x) ⊎ (v ≢ x) → finish_tick (ended st x) v ≤ st.tick
          past v (inl e) = omega (arith, ap (finish_tick (ended st x)) e, own_tick)
          past v (inr z) = omega (arith, ended_other_tick st x v z, facts.finishes_past v)

      next_timely : Timely q next
      unfolding ended
      next_timely = record {
        state = next_state;
        starts_size = timely.starts_size;
        finishes_size = length-set st.finish x st.tick ∙ timely.finishes_size;
        members_finished = λ a v h i. ended_still st x a (timely.members_finished a v h i);
        at_planned = λ v h. timely.at_planned v h ∙ sym (others_planned v (facts.only_steps v h) (λ a i. timely.members_finished a v h i));
      }

      -- A step that x decides is planned no earlier than x's finish; any other was waiting for its planned tick already.
      ended_in_time : NotLate q next
      ended_in_time = record { timely = next_timely; in_time = λ v b f D. go v b f D (bool_cases (sheet_decides q x v)) }
        where
          had : (v : ℕ) → sheet_decides q x v ≡ false → (a : ℕ) → sheet_decides q a v ≡ true → Finished st a ⊎ (a ≡ x) → Finished st a
          had v n a k (inl h) = h
          had v n a k (inr e) = absurd (both_ways (subst (λ (i : ℕ). sheet_decides q i v ≡ true) e k) n)

          go : (v : ℕ) → v < count_of q → test_bit (ended st x).started v ≡ false → DecidersFinished q (ended st x) v → (sheet_decides q x v ≡ true) ⊎ (sheet_decides q x v ≡ false) → (ended st x).tick ≤ planned_tick q (ended st x) v
          go v b f D (inl k) =
              let t : (ended st x).tick ≡ st.tick = unfold ended in refl in
              omega (arith, t, own_tick, planned_above accepted next_timely x v b D k)
          go v b f D (inr n) =
              let t : (ended st x).tick ≡ st.tick = unfold ended in refl in
              let f' : test_bit st.started v ≡ false = unfold ended in f in
              let D' : DecidersFinished q st v = λ a k. had v n a k (ended_finished st x a (D a k)) in
              omega (arith, t, still v b f' D', others_planned v b (all_finished accepted timely v b D'))

    -- ## Every call

    given_keeps : {c : Call} {table leasts : List ℕ} {g : Progress} → IsLent q table → Given st table leasts c g → Invariant q g.state
    given_keeps lent (begins_anew n unbounded e f h) = absurd (both_ways facts.source.0 (unfold begun in f))
    given_keeps lent (ticks_on e z h) = subst (λ (y : Progress). Invariant q y.state) (sym h) (swept accepted lent (ticked_in_time z))
    given_keeps lent (ends x e f l h) = subst (λ (y : Progress). Invariant q y.state) (sym h) (swept accepted lent (ended_in_time x f l))

    pub call_keeps : (c : Call) (leasts : List ℕ) {table : List ℕ} → IsLent q table → Invariant q (state_after st (called st table leasts c))
    unfolding state_after
    call_keeps c leasts {table} lent = go (called st table leasts c) (λ g h. given_keeps lent (call_gives st table leasts c g h))
      where
        go : (o : Outcome Progress) → ((g : Progress) → o ≡ given g → Invariant q g.state) → Invariant q (state_after st o)
        go (given g) h = h g refl
        go (refused k) h = before

  -- Every state of every run. Induction on the run.
  pub run_keeps : {st : State} → Run q st → Invariant q st
  run_keeps (begins before unbounded leasts table g opens are lent h e) = subst (Invariant q) (sym e) (begin_keeps before unbounded leasts table g opens are lent h)
  run_keeps (goes_on run c leasts table lent e) = subst (Invariant q) (sym e) (call_keeps (run_keeps run) c leasts lent)
