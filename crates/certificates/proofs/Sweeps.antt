-- Laws of one call's sweep, for any state and any table: which steps it starts, and the start ticks it writes.
use mathlib.Core.Path.{◌≡◌, refl, sym, ap, ◌∙◌}
use mathlib.Core.Bool.{Bool, true, false, cond, not, ◌&&◌, ◌||◌}
use mathlib.Core.Logic.{◌⊎◌, inl, inr, ◌≢◌, ◌↔◌}
use mathlib.Core.List.{List}
use Prim.Native.Nat.{ℕ, zero, suc, ◌+◌, ◌≤◌, ◌<◌}
use native.Mathlib.Omega.{arith}
use native.Mathlib.Decide.{dec_lt}
use lib.Dec.{eqb, leb, ltb}
use lib.ListN.{length, get_or, set, length-set}
use lib.Seq.{get_or-set_same, get_or-set_other}
use borrow.Author.Tests.{eqb-false, ne_eqb, leb-true, le-leb, ltb-true, lt-ltb, not-true}
use Rattle.definitions.specs.Basics.{any_below, all_below, test_bit, bits_below}
use Rattle.definitions.specs.Plan.{undecided}
use Rattle.definitions.specs.Dispatcher.{entry, names, due, ready, starting, start_ticks, sweep}
use Rattle.definitions.specs.declared.State.{State}
use Rattle.laws.proofs.Bools.{bool_cases, both_ways, not_passing, and_split, and_join, or_split, or_left, or_right, cond_true, cond_false}
use Rattle.laws.proofs.Maps.{test_bits_below, test_or}
use Rattle.laws.proofs.Tests.{any_below_has, any_below_by, all_below_each, all_below_by, last_or_below}
use Rattle.certificates.specs.Runs.{Started, Finished, finish_tick, Starts, SweepFor}

module _ (st : State) (table : List ℕ) where
  -- A step that is ready has not started, and each named step is due.
  ready_says : (v : ℕ) → ready st table v ≡ true → (test_bit st.started v ≡ false) × ((a : ℕ) → a < st.n → names st table v a ≡ true → due st table v a ≡ true)
  unfolding ready
  ready_says v h =
      let r = and_split (not (test_bit st.started v) && any_below (names st table v) st.n) (all_below (λ a. not (names st table v a) || due st table v a) st.n) h in
      let s = and_split (not (test_bit st.started v)) (any_below (names st table v) st.n) r.0 in
      (not-true (test_bit st.started v) s.0, λ a b k. go a k (or_split (not (names st table v a)) (due st table v a) (all_below_each (λ a. not (names st table v a) || due st table v a) st.n r.1 a b)))
    where
      go : (a : ℕ) → names st table v a ≡ true → (not (names st table v a) ≡ true) ⊎ (due st table v a ≡ true) → due st table v a ≡ true
      go a k (inl f) = absurd (both_ways k (not-true (names st table v a) f))
      go a k (inr t) = t

  -- And the other way, where the row names some step.
  ready_by : (v : ℕ) → test_bit st.started v ≡ false → (a : ℕ) → a < st.n → names st table v a ≡ true → ((a : ℕ) → a < st.n → names st table v a ≡ true → due st table v a ≡ true) → ready st table v ≡ true
  unfolding ready
  ready_by v f a b k each = and_join (and_join (ap not f) (any_below_by (names st table v) st.n b k)) (all_below_by (λ a. not (names st table v a) || due st table v a) st.n (λ c l. go c l (bool_cases (names st table v c))))
    where
      go : (c : ℕ) → c < st.n → (names st table v c ≡ true) ⊎ (names st table v c ≡ false) → (not (names st table v c) || due st table v c) ≡ true
      go c l (inl t) = or_right (not (names st table v c)) (each c l t)
      go c l (inr f) = or_left (due st table v c) (ap not f)

  -- The steps that have started after the sweep.
  sweep_started : (v : ℕ) → test_bit (sweep st table).state.started v ≡ (test_bit st.started v || (ltb v st.n && ready st table v))
  unfolding sweep starting
  sweep_started v = test_or st.started (bits_below (ready st table) st.n) v ∙ ap (λ (b : Bool). test_bit st.started v || b) (test_bits_below (ready st table) st.n v)

  -- Start ticks: as many as before; those of ready steps below k are the tick, and the others stay.
  pub start_ticks_length : (k : ℕ) → length (start_ticks st table k) ≡ length st.start
  unfolding start_ticks
  start_ticks_length zero = refl
  start_ticks_length (suc k) = go (ready st table k) (start_ticks_length k)
    where
      go : (b : Bool) → length (start_ticks st table k) ≡ length st.start → length (cond b (set (start_ticks st table k) k st.tick) (start_ticks st table k)) ≡ length st.start
      go true h = length-set (start_ticks st table k) k st.tick ∙ h
      go false h = h

  start_ticks_stay : (k v : ℕ) → (ready st table v ≡ false) ⊎ (k ≤ v) → get_or (start_ticks st table k) v 0 ≡ get_or st.start v 0
  unfolding start_ticks
  start_ticks_stay zero v h = refl
  start_ticks_stay (suc k) v h = go (bool_cases (ready st table k)) h (start_ticks_stay k v)
    where
      apart : (ready st table k ≡ true) → (ready st table v ≡ false) ⊎ (suc k ≤ v) → v ≢ k
      apart t (inl f) e = both_ways t (ap (ready st table) (sym e) ∙ f)
      apart t (inr l) e = omega arith

      below : (ready st table v ≡ false) ⊎ (suc k ≤ v) → (ready st table v ≡ false) ⊎ (k ≤ v)
      below (inl f) = inl f
      below (inr l) = inr (omega arith)

      go : (ready st table k ≡ true) ⊎ (ready st table k ≡ false) → (ready st table v ≡ false) ⊎ (suc k ≤ v) → ((ready st table v ≡ false) ⊎ (k ≤ v) → get_or (start_ticks st table k) v 0 ≡ get_or st.start v 0) → get_or (start_ticks st table (suc k)) v 0 ≡ get_or st.start v 0
      go (inl t) h rest = ap (λ (l : List ℕ). get_or l v 0) (cond_true (set (start_ticks st table k) k st.tick) (start_ticks st table k) t) ∙ get_or-set_other (start_ticks st table k) k v st.tick 0 (apart t h) ∙ rest (below h)
      go (inr f) h rest = ap (λ (l : List ℕ). get_or l v 0) (cond_false (set (start_ticks st table k) k st.tick) (start_ticks st table k) f) ∙ rest (below h)

  start_ticks_new : (k v : ℕ) → k ≤ length st.start → v < k → ready st table v ≡ true → get_or (start_ticks st table k) v 0 ≡ st.tick
  unfolding start_ticks
  start_ticks_new zero v l b h = absurd (omega arith)
  start_ticks_new (suc k) v l b h = go (last_or_below k v b) (bool_cases (ready st table k)) (λ c. start_ticks_new k v (omega arith) c h)
    where
      go : (v ≡ k) ⊎ (v < k) → (ready st table k ≡ true) ⊎ (ready st table k ≡ false) → (v < k → get_or (start_ticks st table k) v 0 ≡ st.tick) → get_or (start_ticks st table (suc k)) v 0 ≡ st.tick
      go (inl e) (inl t) rest =
          ap (λ (l : List ℕ). get_or l v 0) (cond_true (set (start_ticks st table k) k st.tick) (start_ticks st table k) t)
          ∙ ap (λ (i : ℕ). get_or (set (start_ticks st table k) k st.tick) i 0) e
          ∙ get_or-set_same (start_ticks st table k) k st.tick 0 (omega (arith, start_ticks_length k))
      go (inl e) (inr f) rest = absurd (both_ways (ap (ready st table) (sym e) ∙ h) f)
      go (inr c) (inl t) rest =
          ap (λ (l : List ℕ). get_or l v 0) (cond_true (set (start_ticks st table k) k st.tick) (start_ticks st table k) t)
          ∙ get_or-set_other (start_ticks st table k) k v st.tick 0 (λ e. omega arith)
          ∙ rest c
      go (inr c) (inr f) rest = ap (λ (l : List ℕ). get_or l v 0) (cond_false (set (start_ticks st table k) k st.tick) (start_ticks st table k) f) ∙ rest c

  -- ## In document 01's words

  names_iff : (v a : ℕ) → (names st table v a ≡ true) ↔ (entry st table v a ≢ undecided)
  unfolding names
  names_iff v a = (λ h. eqb-false (entry st table v a) undecided (not-true (eqb (entry st table v a) undecided) h), λ z. ap not (ne_eqb (entry st table v a) undecided z))

  due_iff : (v a : ℕ) → (due st table v a ≡ true) ↔ (Finished st a × (finish_tick st a + entry st table v a ≤ st.tick))
  unfolding due
  due_iff v a =
      let soon = get_or st.finish a 0 + entry st table v a in
      (λ h. let r = and_split (test_bit st.finished a) (leb soon st.tick) h in (r.0, leb-true soon st.tick r.1), λ r. and_join r.0 (le-leb soon st.tick r.1))

  ready_some : (v : ℕ) → ready st table v ≡ true → (a : ℕ) × (a < st.n) × (names st table v a ≡ true)
  unfolding ready
  ready_some v h =
      let r = and_split (not (test_bit st.started v) && any_below (names st table v) st.n) (all_below (λ a. not (names st table v a) || due st table v a) st.n) h in
      any_below_has (names st table v) st.n (and_split (not (test_bit st.started v)) (any_below (names st table v) st.n) r.0).1

  starts_iff : (v : ℕ) → ((ltb v st.n && ready st table v) ≡ true) ↔ Starts st table v
  starts_iff v = (found, test)
    where
      found : (ltb v st.n && ready st table v) ≡ true → Starts st table v
      found h =
          let r = and_split (ltb v st.n) (ready st table v) h in
          let k = ready_some v r.1 in
          let says = ready_says v r.1 in
          record { exists = ltb-true v st.n r.0; not_yet = says.0; some = (k.0, k.1, (names_iff v k.0).0 k.2); each = λ a b z. (due_iff v a).0 (says.1 a b ((names_iff v a).1 z)) }

      test : Starts st table v → (ltb v st.n && ready st table v) ≡ true
      test S = and_join (lt-ltb v st.n S.exists) (ready_by v S.not_yet S.some.0 S.some.1 ((names_iff v S.some.0).1 S.some.2) (λ a b k. (due_iff v a).1 (S.each a b ((names_iff v a).0 k))))

  pub sweep_for : st.n ≤ length st.start → SweepFor st table
  unfolding sweep starting
  sweep_for long = record {
    map = λ v. (λ h. (starts_iff v).0 (sym (test_bits_below (ready st table) st.n v) ∙ h), λ S. test_bits_below (ready st table) st.n v ∙ (starts_iff v).1 S);
    started = λ v. (λ h. either v (or_split (test_bit st.started v) (ltb v st.n && ready st table v) (sym (sweep_started v) ∙ h)), λ r. sweep_started v ∙ both v r);
    now = λ v S. start_ticks_new st.n v long S.exists (and_split (ltb v st.n) (ready st table v) ((starts_iff v).1 S)).1;
    others = λ v n. start_ticks_stay st.n v (stays v n (dec_lt v st.n));
  }
    where
      either : (v : ℕ) → (test_bit st.started v ≡ true) ⊎ ((ltb v st.n && ready st table v) ≡ true) → Started st v ⊎ Starts st table v
      either v (inl t) = inl t
      either v (inr t) = inr ((starts_iff v).0 t)

      both : (v : ℕ) → Started st v ⊎ Starts st table v → (test_bit st.started v || (ltb v st.n && ready st table v)) ≡ true
      both v (inl t) = or_left (ltb v st.n && ready st table v) t
      both v (inr S) = or_right (test_bit st.started v) ((starts_iff v).1 S)

      stays : (v : ℕ) → ¬ Starts st table v → Dec (v < st.n) → (ready st table v ≡ false) ⊎ (st.n ≤ v)
      stays v n (yes b) = inl (not_passing (ready st table v) (λ r. n ((starts_iff v).0 (and_join (lt-ltb v st.n b) r))))
      stays v n (no b) = inr (omega arith)
