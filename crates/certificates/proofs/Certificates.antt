-- The certificate: at every state of a run the ticks keep every link and wait, as far as the run has come.
--
-- Take durations that are the reported ones where a step has finished, and longer than the tick and than its least where it has not. Our starts for these durations keep every link and wait,
-- agree with the start ticks of steps that have started, and put every step that has not started after the tick. What they keep is then read off the ticks.
use mathlib.Core.Path.{◌≡◌, refl, sym, ◌∙◌}
use mathlib.Core.Bool.{Bool, true, false}
use mathlib.Core.Logic.{◌⊎◌, inl, inr, ◌≢◌}
use mathlib.Core.List.{List}
use Prim.Native.Nat.{ℕ, zero, suc, ◌+◌, ◌≤◌, ◌<◌}
use native.Mathlib.Omega.{arith}
use Rattle.definitions.specs.Basics.{test_bit}
use Rattle.definitions.specs.Bytes.{Records}
use Rattle.definitions.specs.Links.{Constraint, sequencing, minimum, maximum, finish_maximum, delay_at, duration_with, duration, Keeps}
use Rattle.definitions.specs.Answers.{count_of, leasts_of}
use Rattle.definitions.specs.declared.State.{State}
use Rattle.definitions.specs.declared.Delay.{Delay}
use Rattle.definitions.specs.declared.Delay.TheVariants.{Open, Fixed}
use Rattle.laws.proofs.Bools.{bool_cases}
use Rattle.demands.specs.Demands.{Accepted, Durations, sheet_decides, our_start, wait_link}
use Rattle.demands.proofs.Edges.{Ends, sheet_ends}
use Rattle.demands.proofs.Meaning.{wait_of}
use Rattle.demands.proofs.Formed.{accepted_fits}
use Rattle.demands.proofs.OurStarts.{kept_for, open_duration}
use Rattle.certificates.specs.Runs.{Started, Finished, start_tick, finish_tick, reported, DecidersFinished, StateFor, AfterHolds, AtLeastHolds, NotMissed, AtMostHolds, FinishHolds, Holds, Certified}
use Rattle.certificates.proofs.Sheets.{our_start_above}
use Rattle.certificates.proofs.Invariants.{Timely, Invariant, filled, filled_finished, filled_running, filled_durations, deciders_or_one, all_finished, planned_agrees}
use Rattle.certificates.proofs.Calls.{still}

-- The duration of a step is taken from the delays only where it is open and not step 0.
same_duration : (d d' : ℕ → ℕ) (i : ℕ) (x : Delay) → (i ≢ 0 → x ≡ Open → d i ≡ d' i) → duration_with d i x ≡ duration_with d' i x
unfolding duration_with
same_duration d d' i (Fixed t) h = refl
same_duration d d' zero Open h = refl
same_duration d d' (suc i) Open h = h (λ e. omega arith) refl

module _ {s : List ℕ} {allow : Bool} {q : Records} {w : ℕ} (accepted : Accepted s allow q w) {st : State} (invariant : Invariant q st) where
  timely : Timely q st
  timely = invariant.timely

  facts : StateFor q st
  facts = invariant.timely.state

  -- The durations: whoever has not finished outlasts the tick.
  abbrev longer : ℕ → ℕ
  longer a = st.tick + 1 + leasts_of q a

  abbrev outlasting : ℕ → ℕ
  outlasting = filled st longer

  outlasting_finished : (a : ℕ) → Finished st a → outlasting a ≡ reported st a
  outlasting_finished = filled_finished accepted timely longer (λ a. omega arith)

  outlasting_running : (a : ℕ) → test_bit st.finished a ≡ false → outlasting a ≡ longer a
  outlasting_running = filled_running accepted timely longer (λ a. omega arith)

  outlasting_durations : Durations q outlasting
  outlasting_durations = filled_durations accepted timely longer (λ a. omega arith)

  -- Our starts for them agree with the start ticks,
  same_start : (v : ℕ) → Started st v → our_start q outlasting v ≡ start_tick st v
  same_start v h = planned_agrees accepted timely outlasting outlasting_finished v (facts.only_steps v h) (λ a i. timely.members_finished a v h i) ∙ sym (timely.at_planned v h)

  -- and put every step that has not started after the tick: one of its deciding steps outlasts the tick, or its planned tick is still to come.
  later_start : (v : ℕ) → v < count_of q → test_bit st.started v ≡ false → st.tick < our_start q outlasting v
  later_start v b f = go (deciders_or_one accepted timely v b)
    where
      go : DecidersFinished q st v ⊎ ((a : ℕ) × (sheet_decides q a v ≡ true) × (test_bit st.finished a ≡ false)) → st.tick < our_start q outlasting v
      go (inl D) = omega (arith, still accepted invariant v b f D, planned_agrees accepted timely outlasting outlasting_finished v b (all_finished accepted timely v b D))
      go (inr r) = omega (arith, our_start_above accepted outlasting outlasting_durations r.0 v b r.1, outlasting_running r.0 r.2)

  -- What starts no later than a step that has started has started.
  starts_before : (i j : ℕ) → i < count_of q → Started st j → our_start q outlasting i ≤ our_start q outlasting j → Started st i
  starts_before i j b h l = go (bool_cases (test_bit st.started i))
    where
      go : (test_bit st.started i ≡ true) ⊎ (test_bit st.started i ≡ false) → Started st i
      go (inl t) = t
      go (inr f) = absurd (omega (arith, later_start i b f, same_start j h, facts.starts_past j))

  -- After: an open step that has not finished would outlast the tick, and so the start of j.
  after_holds : (i j g : ℕ) → i < count_of q → our_start q outlasting i + duration q.steps outlasting i + g ≤ our_start q outlasting j → Started st j → AfterHolds q st i j g
  unfolding duration
  after_holds i j g b l h = record {
    started = begun;
    order = omega (arith, line);
    line = line;
    ended = λ z e. (finished z e, omega (arith, line, open_duration (reported st) i (delay_at q.steps i) z e, facts.in_order i (finished z e)));
  }
    where
      begun : Started st i
      begun = starts_before i j b h (omega arith)

      finished : i ≢ 0 → delay_at q.steps i ≡ Open → Finished st i
      finished z e = go (bool_cases (test_bit st.finished i))
        where
          go : (test_bit st.finished i ≡ true) ⊎ (test_bit st.finished i ≡ false) → Finished st i
          go (inl t) = t
          go (inr f) = absurd (omega (arith, l, open_duration outlasting i (delay_at q.steps i) z e, outlasting_running i f, same_start j h, facts.starts_past j))

      line : start_tick st i + duration_with (reported st) i (delay_at q.steps i) + g ≤ start_tick st j
      line = omega (arith, l, same_start i begun, same_start j h, same_duration outlasting (reported st) i (delay_at q.steps i) (λ z e. outlasting_finished i (finished z e)))

  at_least_holds : (i j m : ℕ) → i < count_of q → our_start q outlasting i + m ≤ our_start q outlasting j → Started st j → AtLeastHolds st i j m
  at_least_holds i j m b l h =
      let begun = starts_before i j b h (omega arith) in
      let line : start_tick st i + m ≤ start_tick st j = omega (arith, same_start i begun, same_start j h) in
      record { started = begun; order = omega arith; line = line }

  -- A limit: our starts keep it, and a step that has not started is put after the tick.
  not_missed : (j last : ℕ) → j < count_of q → our_start q outlasting j ≤ last → NotMissed st j last
  not_missed j last b l = go (bool_cases (test_bit st.started j))
    where
      go : (test_bit st.started j ≡ true) ⊎ (test_bit st.started j ≡ false) → NotMissed st j last
      go (inl t) = inl (t, omega (arith, same_start j t))
      go (inr f) = inr (f, omega (arith, later_start j b f))

  at_most_holds : (i j u : ℕ) → j < count_of q → our_start q outlasting j ≤ our_start q outlasting i + u → Started st i → AtMostHolds st i j u
  at_most_holds i j u b l h = not_missed j (start_tick st i + u) b (omega (arith, same_start i h))

  -- From the finish: a step that has finished lasts in our starts as long as it did.
  finish_holds : (i j u : ℕ) → j < count_of q → (x : Delay) → our_start q outlasting j ≤ our_start q outlasting i + duration_with outlasting i x + u → FinishHolds st i j u x
  unfolding duration_with
  finish_holds i j u b (Fixed ticks) l = λ h. not_missed j (start_tick st i + ticks + u) b (omega (arith, same_start i h))
  finish_holds zero j u b Open l = λ h. not_missed j (finish_tick st 0 + u) b (omega (arith, same_start 0 facts.source.0, facts.source.2, facts.source.3))
  finish_holds (suc i) j u b Open l = λ h.
      not_missed
      j
      (finish_tick st (suc i) + u)
      b
      (omega (arith, same_start (suc i) (facts.finished_started (suc i) h), outlasting_finished (suc i) h, facts.in_order (suc i) h))

  holds : (c : Constraint) → Ends (count_of q) c → Keeps q.steps outlasting (our_start q outlasting) c → Holds q st c
  unfolding duration
  holds (sequencing i j g) e k = after_holds i j g e.0 k
  holds (minimum i j m) e k = at_least_holds i j m e.0 k
  holds (maximum i j u) e k = at_most_holds i j u e.1 k
  holds (finish_maximum i j u) e k = finish_holds i j u e.1 (delay_at q.steps i) k

  pub certified : Certified q st
  certified =
      let kept = kept_for accepted outlasting outlasting_durations in
      record {
        links = λ c m. holds c (sheet_ends (accepted_fits accepted) c m) (kept.links.keeps c m);
        waits = λ p m. let r = wait_of (accepted_fits accepted) p m in holds (wait_link p) (r.anchor_below, r.target_below) (kept.waits p m);
      }
