-- Where nothing reaches further than the anchor sets say, the sheet is well-posed: a return hands on to its end only what is there. So nothing waits, and nothing waits for itself, since forward edges close no circle.
use mathlib.Core.Path.{◌≡◌, sym, ap, ◌∙◌}
use mathlib.Core.Bool.{true, false, ◌&&◌}
use mathlib.Core.List.{List}
use mathlib.Core.Logic.{◌⊎◌, inl, inr}
use Prim.Native.Nat.{ℕ, ◌<◌, ◌≤◌}
use native.Mathlib.Omega.{arith}
use lib.Dec.{ltb}
use lib.ListN.{get_or, get_or-replicate, length, length-replicate, replicate}
use lib.Seq.{ext_get_or}
use Rattle.definitions.specs.Anchors.{InAnchorSet, WellPosed, chain, in_anchor_set, is_source}
use Rattle.definitions.specs.Answers.{inconsistent}
use Rattle.definitions.specs.Basics.{test_bit}
use Rattle.definitions.specs.Links.{After, Edge, LateInto, UsableFrom, members, usable}
use Rattle.definitions.specs.Rounds.{after_reaches}
use Rattle.definitions.specs.Waits.{WaitPair, wait_count, wait_map, wait_maps}
use Rattle.laws.proofs.Bools.{and_split, not_passing}
use Rattle.laws.proofs.Maps.{same_map, test_zero}
use Rattle.laws.proofs.Tests.{none_any_below, tabulate_length}
use Rattle.data_relations.specs.Rows.{row_bit}
use Rattle.theory.specs.Graphs.{ForwardAcyclic}
use Rattle.theory.proofs.Reachability.{in_anchor_set_iff}
use Rattle.theory.proofs.Serialization.{posed_no_wait}
use Rattle.theory.proofs.Usables.{chain_usable, dec_late_into}
use Rattle.theory.proofs.WaitLists.{usable_reaches_iff, wait_maps_iff, well_posed_unlisted}
use Rattle.theory.proofs.Walks.{after_join, after_walk, some_after, walk_edge}
use Rattle.judge_waits.specs.Reaching.{Known}

module _ {n : ℕ} {g : List Edge} {reach sets : List ℕ} (known : Known n g reach sets) (within : (a v : ℕ) → row_bit reach v a ≡ true → row_bit sets v a ≡ true) where
  -- What reaches v is in its set.
  reaching_member : {a v : ℕ} → v < n → After (UsableFrom (members g) a) a v → InAnchorSet (members g) a v
  reaching_member {a} {v} b w =
      let stands = within a v (known.reaches.bits a v b ∙ (usable_reaches_iff known.shape a v).1 w) in
      let p = and_split (ltb v n) (ltb a n && in_anchor_set n g a v) (sym (known.anchors.bits a v) ∙ stands) in
      (in_anchor_set_iff known.shape a v).0 (and_split (ltb a n) (in_anchor_set n g a v) p.1).1

  posed : WellPosed (members g)
  posed a e m b (is_source z) = inl (is_source z)
  posed a e m b (chain c) = go (dec_late_into e a)
    where
      go : Dec (LateInto e a) → InAnchorSet (members g) a e.to ⊎ LateInto e a
      go (yes l) = inr l
      go (no l) = inl (reaching_member (known.shape.to_below e m) (some_after (after_join (chain_usable known.shape c).walk (walk_edge e (m, l)))))

  pub unwaited_count : wait_count n g ≡ 0
  unfolding wait_count
  unwaited_count = ap (λ (l : List WaitPair). length l) (well_posed_unlisted known.shape posed)

  pub unwaited_maps : n ≤ 64 → wait_maps n g ≡ replicate 64 0
  unfolding wait_maps
  unwaited_maps few =
      ext_get_or 0 (wait_maps n g) (replicate 64 0) (tabulate_length (wait_map n g) 64 ∙ sym (length-replicate {A = ℕ} 64 0)) (λ i b. same_map (get_or (wait_maps n g) i 0) (get_or (replicate 64 0) i 0) (λ a. none i a ∙ sym (blank i a (omega (arith, tabulate_length (wait_map n g) 64)))))
    where
      none : (i a : ℕ) → test_bit (get_or (wait_maps n g) i 0) a ≡ false
      none i a = not_passing (test_bit (get_or (wait_maps n g) i 0) a) (λ t. posed_no_wait known.shape posed ((wait_maps_iff few known.shape i a).0 t))

      blank : (i a : ℕ) → i < 64 → test_bit (get_or (replicate 64 0) i 0) a ≡ false
      blank i a b = ap (λ (m : ℕ). test_bit m a) (get_or-replicate 64 i 0 0 b) ∙ test_zero a

  pub unwaited_consistent : ForwardAcyclic (members g) → inconsistent n g ≡ false
  unfolding inconsistent
  unwaited_consistent once = none_any_below (λ a. after_reaches n (usable g a) a a) n (λ a b. not_passing (after_reaches n (usable g a) a a) (λ t. own b ((usable_reaches_iff known.shape a a).0 t)))
    where
      own : {a : ℕ} → a < n → ¬ After (UsableFrom (members g) a) a a
      own {a} b w = go (reaching_member b w)
        where
          go : ¬ InAnchorSet (members g) a a
          go (is_source z) = w.walk.not_source z
          go (chain c) = once a _ _ _ (after_walk c.walk)
