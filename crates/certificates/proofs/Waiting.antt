-- What a step that has not started waits for: an open step at work, or the clock.
use mathlib.Core.Path.{◌≡◌, refl, subst, sym}
use mathlib.Core.Bool.{Bool, true, false}
use mathlib.Core.Logic.{◌⊎◌, inl, inr, ◌≢◌}
use mathlib.Core.List.{List}
use Prim.Native.Nat.{ℕ, ◌<◌}
use Rattle.definitions.specs.Basics.{test_bit}
use Rattle.definitions.specs.Bytes.{Records}
use Rattle.definitions.specs.Links.{delay_at}
use Rattle.definitions.specs.Answers.{count_of}
use Rattle.definitions.specs.declared.State.{State}
use Rattle.definitions.specs.declared.Delay.TheVariants.{Open}
use Rattle.laws.proofs.Bools.{bool_cases, both_ways}
use Rattle.demands.specs.Demands.{Accepted, in_start_set, sheet_decides}
use Rattle.certificates.specs.Runs.{DecidersFinished, WaitsOn, on_hand, on_clock, StateFor}
use Rattle.certificates.proofs.Sheets.{start_member_below, start_member_trans, start_set_induct, member_open, decider_member}
use Rattle.certificates.proofs.Invariants.{Invariant, deciders_or_one}
use Rattle.certificates.proofs.Calls.{still}

module _ {s : List ℕ} {allow : Bool} {q : Records} {w : ℕ} (accepted : Accepted s allow q w) {st : State} (invariant : Invariant q st) where
  facts : StateFor q st
  facts = invariant.timely.state

  -- What a member of the start set of v waits for, v waits for.
  waits_through : (a v : ℕ) → in_start_set q a v ≡ true → WaitsOn q st a → WaitsOn q st v
  waits_through a v i (on_hand b j c) = on_hand b (start_member_trans accepted b a v j i) c
  waits_through a v i (on_clock u j f D l) = on_clock u (inr (go j)) f D l
    where
      go : (u ≡ a) ⊎ (in_start_set q u a ≡ true) → in_start_set q u v ≡ true
      go (inl e) = subst (λ (x : ℕ). in_start_set q x v ≡ true) (sym e) i
      go (inr k) = start_member_trans accepted u a v k i

  -- Its deciding steps have all finished, and then its planned tick is still to come; or one has not. That one is at work, or has not started itself. By induction along start sets.
  pub waits_on : (v : ℕ) → v < count_of q → test_bit st.started v ≡ false → WaitsOn q st v
  waits_on = start_set_induct accepted (λ v. test_bit st.started v ≡ false → WaitsOn q st v) each
    where
      each : (v : ℕ) → v < count_of q → ((a : ℕ) → a < count_of q → a ≢ 0 → in_start_set q a v ≡ true → test_bit st.started a ≡ false → WaitsOn q st a) → test_bit st.started v ≡ false → WaitsOn q st v
      each v b ih f = by (deciders_or_one accepted invariant.timely v b)
        where
          at_work : (a : ℕ) → in_start_set q a v ≡ true → test_bit st.finished a ≡ false → (a ≡ 0) ⊎ (delay_at q.steps a ≡ Open) → (test_bit st.started a ≡ true) ⊎ (test_bit st.started a ≡ false) → a < count_of q → a ≢ 0 → WaitsOn q st v
          at_work a i n (inl e) k l z = absurd (z e)
          at_work a i n (inr o) (inl t) l z = on_hand a i (record { exists = l; not_source = z; lasts = o; started = t; running = n })
          at_work a i n (inr o) (inr g) l z = waits_through a v i (ih a l z i g)

          by : DecidersFinished q st v ⊎ ((a : ℕ) × (sheet_decides q a v ≡ true) × (test_bit st.finished a ≡ false)) → WaitsOn q st v
          by (inl D) = on_clock v (inl refl) f D (still accepted invariant v b f D)
          by (inr r) =
              let i = decider_member accepted r.0 v b r.1 in
              at_work r.0 i r.2 (member_open accepted r.0 v i) (bool_cases (test_bit st.started r.0)) (start_member_below accepted r.0 v b i) (λ e. both_ways facts.source.1 (subst (λ (x : ℕ). test_bit st.finished x ≡ false) e r.2))
