-- The executable waits: the test is the relation, the list holds the pairs that pass it, the maps have their bits, and the list of edges with the waits in is the graph with its serialization edges.
use mathlib.Core.Path.{◌∙◌, ◌≡◌, ap, refl, subst, sym}
use mathlib.Core.Bool.{Bool, ◌&&◌, false, not, true}
use mathlib.Core.Logic.{◌↔◌, ◌⊎◌, inl, inr}
use mathlib.Core.List.Memᴰ
use mathlib.Core.List.{List, Memᴰ, [], ◌++◌, ◌∷◌, append-nil, map}
use Prim.Native.Nat.{◌<◌, ◌^◌, ◌≤◌, suc, ℕ}
use native.Mathlib.Omega.{arith}
use native.Mathlib.Decide.{dec_lt}
use lib.Dec.{eqb, ltb}
use lib.ListN.{get_or, length}
use borrow.Author.Tests.{eq-eqb, eqb-true, le-ltb, lt-ltb, ltb-false, not-true}
use Rattle.definitions.specs.Limits.{most_steps}
use Rattle.definitions.specs.Anchors.{InAnchorSet, WellPosed, chain, in_anchor_set, is_source}
use Rattle.definitions.specs.Basics.{any, select_below, tabulate, test_bit}
use Rattle.definitions.specs.Links.{After, Edge, Forward, LateInto, UsableFrom, members, usable}
use Rattle.definitions.specs.Rounds.{after_reaches}
use Rattle.definitions.specs.Waits.{Wait, WaitPair, needs_waits, serialized, wait_count, wait_edge, wait_list, wait_map, wait_maps, waits_for, waits_of, wait_pair}
use Rattle.laws.proofs.Bools.{and_join, and_split, both_ways, not_passing}
use Rattle.laws.proofs.Maps.{test_bits_below, test_zero, bits_below_lt}
use Rattle.laws.proofs.Tests.{any_by, any_has, flatMap_has, flatMap_only, mem_tabulate, select_below_has, select_below_only, tabulate_at, tabulate_mem, tabulate_past}
use Rattle.theory.specs.Graphs.{Acyclic, Shape, WaitEdge, Waited}
use Rattle.theory.proofs.Reachability.{after_reaches_iff, dec_member, in_anchor_set_iff}
use Rattle.theory.proofs.Serialization.{posed_no_wait, waited_shape, waited_well_posed}
use Rattle.theory.proofs.Usables.{chain_usable, dec_late_into, members_usable, usable_list_shape, usable_members, usable_shape}
use Rattle.theory.proofs.Walks.{after_mono, after_start_below, some_after}

module _ {n : ℕ} {es : List Edge} (shape : Shape n (members es)) where
  -- Walks from the end of a, by the test over the edges that they may use.
  pub usable_reaches_iff : (a v : ℕ) → (after_reaches n (usable es a) a v ≡ true) ↔ After (UsableFrom (members es) a) a v
  usable_reaches_iff a v =
      let r = after_reaches_iff (usable_list_shape shape a) a v in
      (λ h. some_after (after_mono (members_usable es a) (r.0 h).walk), λ w. r.1 (some_after (after_mono (usable_members es a) w.walk)))

  -- Test by test, from the tests of walks and anchor sets.
  pub waits_for_iff : (a i : ℕ) → (waits_for n es a i ≡ true) ↔ Wait (members es) a i
  unfolding waits_for
  waits_for_iff a i = (found, test)
    where
      returns : Edge → Bool
      returns e = e.back && eqb e.to i && after_reaches n (usable es a) a e.from

      found : (any returns (usable es a) && not (in_anchor_set n es a i)) ≡ true → Wait (members es) a i
      found h =
          let r = and_split (any returns (usable es a)) (not (in_anchor_set n es a i)) h in
          let s = any_has returns (usable es a) r.0 in
          let t = and_split (s.0.back && eqb s.0.to i) (after_reaches n (usable es a) a s.0.from) s.2 in
          let u = and_split s.0.back (eqb s.0.to i) t.0 in
          record { edge = s.0; mem = members_usable es a s.0 s.1; returns = u.0; enters = eqb-true s.0.to i u.1; reaches = (usable_reaches_iff a s.0.from).0 t.1; absent = λ k. both_ways ((in_anchor_set_iff shape a i).1 k) (not-true (in_anchor_set n es a i) r.1) }

      test : Wait (members es) a i → (any returns (usable es a) && not (in_anchor_set n es a i)) ≡ true
      test w =
          and_join
          (any_by
          returns
          (usable es a)
          (usable_members es a w.edge w.mem)
          (and_join (and_join w.returns (eq-eqb w.edge.to i w.enters)) ((usable_reaches_iff a w.edge.from).1 w.reaches)))
          (ap not (not_passing (in_anchor_set n es a i) (λ t. w.absent ((in_anchor_set_iff shape a i).0 t))))

  pub wait_anchor_below : {a i : ℕ} → Wait (members es) a i → a < n
  wait_anchor_below {a} w = after_start_below (usable_shape shape a) w.reaches

  pub wait_target_below : {a i : ℕ} → Wait (members es) a i → i < n
  wait_target_below w = rw w.enters at (shape.to_below w.edge w.mem.0)

-- The list holds each pair below n that passes, and only those.
pub wait_list_has : (n : ℕ) (es : List Edge) {a i : ℕ} → a < n → i < n → waits_for n es a i ≡ true → Memᴰ (wait_pair a i) (wait_list n es)
unfolding wait_list waits_of
wait_list_has n es {a} {i} b c h =
    flatMap_has
    (waits_of n es)
    (tabulate (λ x. x) n)
    (tabulate_mem (λ x. x) n b)
    (Memᴰ.map (wait_pair a) (select_below_has (waits_for n es a) n c h))

pub wait_list_only : (n : ℕ) (es : List Edge) {w : WaitPair} → Memᴰ w (wait_list n es) → (w.anchor < n) × (w.target < n) × (waits_for n es w.anchor w.target ≡ true)
unfolding wait_list waits_of
wait_list_only n es {w} m = from_anchor (flatMap_only (waits_of n es) (tabulate (λ x. x) n) m)
  where
    from_pair : (a : ℕ) → a < n → (i : ℕ) × Memᴰ i (select_below (waits_for n es a) n) × (wait_pair a i ≡ w) → (w.anchor < n) × (w.target < n) × (waits_for n es w.anchor w.target ≡ true)
    from_pair a b r =
        let s = select_below_only (waits_for n es a) n r.1 in
        subst (λ (x : WaitPair). (x.anchor < n) × (x.target < n) × (waits_for n es x.anchor x.target ≡ true)) r.2 (b, s.0, s.1)

    from_anchor : (a : ℕ) × Memᴰ a (tabulate (λ x. x) n) × Memᴰ w (waits_of n es a) → (w.anchor < n) × (w.target < n) × (waits_for n es w.anchor w.target ≡ true)
    from_anchor r =
        let s = mem_tabulate (λ x. x) n r.1 in
        from_pair r.0 (omega (arith, s.1, s.2)) (Memᴰ.of_map (wait_pair r.0) (select_below (waits_for n es r.0) n) r.2)

module _ {n : ℕ} {es : List Edge} (shape : Shape n (members es)) where
  pub wait_listed : {a i : ℕ} → Wait (members es) a i → Memᴰ (wait_pair a i) (wait_list n es)
  wait_listed {a} {i} w = wait_list_has n es (wait_anchor_below shape w) (wait_target_below shape w) ((waits_for_iff shape a i).1 w)

  pub listed_wait : {w : WaitPair} → Memᴰ w (wait_list n es) → Wait (members es) w.anchor w.target
  listed_wait {w} m = (waits_for_iff shape w.anchor w.target).0 (wait_list_only n es m).2

  -- The sheet with its waits in.
  pub serialized_waited : {least : ℕ → ℕ} → Waited least (members es) (members (serialized n least es))
  unfolding serialized
  serialized_waited {least} = record { keeps_all = λ e m. Memᴰ.append_left (map (wait_edge least) (wait_list n es)) m; adds = adds; only = λ e m. only e (Memᴰ.append_cases es m) }
    where
      is_wait_edge : (e : Edge) → WaitEdge least (members es) e → e ≡ wait_edge least (wait_pair e.from e.to)
      is_wait_edge e h = λ i. record { from = e.from; to = e.to; gain = h.gains i; loss = h.lossless i; counted = h.counts i; back = h.forward i; late = h.timely i }

      adds : (e : Edge) → WaitEdge least (members es) e → Memᴰ e (es ++ map (wait_edge least) (wait_list n es))
      adds e h = Memᴰ.append_right es (Memᴰ.cast (is_wait_edge e h) (Memᴰ.map (wait_edge least) (wait_listed h.wait)))

      only : (e : Edge) → Memᴰ e es ⊎ Memᴰ e (map (wait_edge least) (wait_list n es)) → Memᴰ e es ⊎ WaitEdge least (members es) e
      only e (inl m) = inl m
      only e (inr m) =
          let r = Memᴰ.of_map (wait_edge least) (wait_list n es) m in
          inr (subst (WaitEdge least (members es)) r.2 (record { counts = refl; forward = refl; gains = refl; lossless = refl; timely = refl; wait = listed_wait r.1 }))

  -- No waits are needed exactly where the graph is well-posed.
  empty_none : (l : List WaitPair) → ltb 0 (length l) ≡ false → (w : WaitPair) → ¬ Memᴰ w l
  empty_none [] h w m = Memᴰ.not-nil m
  empty_none (x ∷ l) h w m = omega (arith, ltb-false 0 (suc (length l)) h)

  none_empty : (l : List WaitPair) → ((w : WaitPair) → ¬ Memᴰ w l) → l ≡ []
  none_empty [] h = refl
  none_empty (x ∷ l) h = absurd (h x (Memᴰ.head refl))

  pub well_posed_unlisted : WellPosed (members es) → wait_list n es ≡ []
  well_posed_unlisted posed = none_empty (wait_list n es) (λ w m. posed_no_wait shape posed (listed_wait m))

  pub needs_waits_iff : (needs_waits n es ≡ false) ↔ WellPosed (members es)
  unfolding needs_waits wait_count
  needs_waits_iff = (posed, λ p. ap (λ (l : List WaitPair). ltb 0 (length l)) (well_posed_unlisted p) ∙ le-ltb 0 0 (omega arith))
    where
      posed : ltb 0 (length (wait_list n es)) ≡ false → WellPosed (members es)
      posed h a e m b (is_source z) = inl (is_source z)
      posed h a e m b (chain c) = go (dec_member shape a e.to) (dec_late_into e a)
        where
          go : Dec (InAnchorSet (members es) a e.to) → Dec (LateInto e a) → InAnchorSet (members es) a e.to ⊎ LateInto e a
          go (yes i) l = inl i
          go (no i) (yes l) = inr l
          go (no i) (no l) =
              absurd
              (empty_none
              (wait_list n es)
              h
              _
              (wait_listed
              (record { edge = e; mem = (m, l); returns = b; enters = refl; reaches = chain_usable shape c; absent = i })))

  -- Then the waits change nothing.
  pub serialized_none : (least : ℕ → ℕ) → needs_waits n es ≡ false → serialized n least es ≡ es
  unfolding serialized needs_waits wait_count
  serialized_none least h = ap (λ (l : List WaitPair). es ++ map (wait_edge least) l) (none_empty (wait_list n es) (empty_none (wait_list n es) h)) ∙ append-nil es

  -- Where its forward edges close no circle, the graph with its waits is well-posed.
  pub serialized_well_posed : (least : ℕ → ℕ) → Acyclic (Forward (members (serialized n least es))) → WellPosed (members (serialized n least es))
  serialized_well_posed least = waited_well_posed shape serialized_waited (dec_member shape)

  pub serialized_shape : (least : ℕ → ℕ) → Shape n (members (serialized n least es))
  serialized_shape least = waited_shape serialized_waited shape

-- The maps: bit a of map i.
pub wait_map_bit : (n : ℕ) (es : List Edge) (i a : ℕ) → test_bit (wait_map n es i) a ≡ (ltb a n && (ltb i n && waits_for n es a i))
unfolding wait_map
wait_map_bit n es i a = test_bits_below (λ x. ltb i n && waits_for n es x i) n a

wait_map_iff : {n : ℕ} {es : List Edge} → Shape n (members es) → (i a : ℕ) → (test_bit (wait_map n es i) a ≡ true) ↔ Wait (members es) a i
wait_map_iff {n} {es} shape i a = (found, test)
  where
    found : test_bit (wait_map n es i) a ≡ true → Wait (members es) a i
    found h =
        let r = and_split (ltb a n) (ltb i n && waits_for n es a i) (sym (wait_map_bit n es i a) ∙ h) in
        (waits_for_iff shape a i).0 (and_split (ltb i n) (waits_for n es a i) r.1).1

    test : Wait (members es) a i → test_bit (wait_map n es i) a ≡ true
    test w = wait_map_bit n es i a ∙ and_join (lt-ltb a n (wait_anchor_below shape w)) (and_join (lt-ltb i n (wait_target_below shape w)) ((waits_for_iff shape a i).1 w))

pub wait_map_small : (n : ℕ) (es : List Edge) (i : ℕ) → wait_map n es i < 2 ^ n
unfolding wait_map
wait_map_small n es i = bits_below_lt (λ a. ltb i n && waits_for n es a i) n

pub wait_maps_at : (n : ℕ) (es : List Edge) (i : ℕ) → i < most_steps → get_or (wait_maps n es) i 0 ≡ wait_map n es i
unfolding wait_maps
wait_maps_at n es i b = tabulate_at (wait_map n es) most_steps i 0 b

pub wait_maps_past : (n : ℕ) (es : List Edge) (i : ℕ) → most_steps ≤ i → get_or (wait_maps n es) i 0 ≡ 0
unfolding wait_maps
wait_maps_past n es i h = tabulate_past (wait_map n es) most_steps i 0 h

pub wait_maps_iff : {n : ℕ} {es : List Edge} → n ≤ most_steps → Shape n (members es) → (i a : ℕ) → (test_bit (get_or (wait_maps n es) i 0) a ≡ true) ↔ Wait (members es) a i
wait_maps_iff {n} {es} few shape i a = go (dec_lt i most_steps)
  where
    go : Dec (i < most_steps) → (test_bit (get_or (wait_maps n es) i 0) a ≡ true) ↔ Wait (members es) a i
    go (yes b) =
        let r = wait_map_iff shape i a in
        (λ h. r.0 (ap (λ (m : ℕ). test_bit m a) (sym (wait_maps_at n es i b)) ∙ h), λ w. ap (λ (m : ℕ). test_bit m a) (wait_maps_at n es i b) ∙ r.1 w)
    go (no b) = (
      λ h. absurd (both_ways h (ap (λ (m : ℕ). test_bit m a) (wait_maps_past n es i (omega arith)) ∙ test_zero a)),
      λ w. absurd (omega (arith, wait_target_below shape w)),
    )
