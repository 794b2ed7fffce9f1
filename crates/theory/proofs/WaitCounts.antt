-- The count of waits is the number of bits that stand in their maps.
use mathlib.Core.Path.{◌∙◌, ◌≡◌, ap, sym}
use mathlib.Core.Bool.{Bool, ◌&&◌, cond, and-false}
use mathlib.Core.List.{List}
use Prim.Native.Nat.{◌<◌, ◌≤◌, ℕ}
use native.Mathlib.Omega.{arith}
use native.Mathlib.Decide.{dec_lt}
use lib.Dec.{ltb}
use lib.ListN.{get_or, length, length-map}
use borrow.Author.Tests.{le-ltb, lt-ltb}
use Rattle.definitions.specs.Limits.{most_steps}
use Rattle.definitions.specs.Basics.{select_below, sum_below, test_bit}
use Rattle.definitions.specs.Links.{Edge}
use Rattle.definitions.specs.Waits.{wait_count, wait_list, wait_maps, waits_for, waits_of, wait_pair}
use Rattle.laws.proofs.Bools.{cond_false}
use Rattle.laws.proofs.Counts.{flatMap_length, select_length, sum_below_cut, sum_below_same, sum_below_swap, sum_below_zero}
use Rattle.laws.proofs.Maps.{test_zero}
use Rattle.theory.specs.Counts.{count_below, standing_bits}
use Rattle.theory.proofs.WaitLists.{wait_map_bit, wait_maps_at, wait_maps_past}

-- The list is a sum over anchors and then over targets; the maps are one over targets and then over anchors; beyond n no bit stands.
module _ (n : ℕ) (es : List Edge) where
  abbrev waiting : ℕ → ℕ → ℕ
  waiting i a = cond (waits_for n es a i) 1 0

  listed : wait_count n es ≡ sum_below (λ a. sum_below (λ i. waiting i a) n) n
  unfolding wait_count wait_list waits_of
  listed =
      flatMap_length (waits_of n es) n
      ∙ sum_below_same
      (λ a. length (waits_of n es a))
      (λ a. sum_below (λ i. waiting i a) n)
      n
      (λ a b. length-map (select_below (waits_for n es a) n) (wait_pair a) ∙ select_length (waits_for n es a) n)

  module _ (few : n ≤ most_steps) where
    abbrev bit : ℕ → ℕ → ℕ
    bit i a = cond (test_bit (get_or (wait_maps n es) i 0) a) 1 0

    map_bit : (i a : ℕ) → test_bit (get_or (wait_maps n es) i 0) a ≡ (ltb a n && (ltb i n && waits_for n es a i))
    map_bit i a = go (dec_lt i most_steps)
      where
        go : Dec (i < most_steps) → test_bit (get_or (wait_maps n es) i 0) a ≡ (ltb a n && (ltb i n && waits_for n es a i))
        go (yes b) = ap (λ (m : ℕ). test_bit m a) (wait_maps_at n es i b) ∙ wait_map_bit n es i a
        go (no b) =
            ap (λ (m : ℕ). test_bit m a) (wait_maps_past n es i (omega arith))
            ∙ test_zero a
            ∙ sym (rw (le-ltb i n (omega arith)) (and-false (ltb a n)))

    bit_inside : (i a : ℕ) → i < n → a < n → bit i a ≡ waiting i a
    bit_inside i a b c =
        let stands : test_bit (get_or (wait_maps n es) i 0) a ≡ waits_for n es a i = map_bit i a ∙ rw (lt-ltb a n c, lt-ltb i n b) in
        ap (λ (t : Bool). cond t 1 0) stands

    bit_anchor_past : (i a : ℕ) → n ≤ a → bit i a ≡ 0
    bit_anchor_past i a c = cond_false 1 0 (map_bit i a ∙ rw (le-ltb a n c))

    bit_target_past : (i a : ℕ) → n ≤ i → bit i a ≡ 0
    bit_target_past i a c = cond_false 1 0 (map_bit i a ∙ rw (le-ltb i n c) (and-false (ltb a n)))

    -- Over the maps of the steps, and over all of them.
    pub wait_count_members : wait_count n es ≡ sum_below (λ i. count_below (test_bit (get_or (wait_maps n es) i 0)) most_steps) n
    wait_count_members =
        listed
        ∙ sum_below_swap (λ a i. waiting i a) n n
        ∙ sum_below_same (λ i. sum_below (waiting i) n) (λ i. sum_below (bit i) most_steps) n (λ i b. row i b)
      where
        row : (i : ℕ) → i < n → sum_below (waiting i) n ≡ sum_below (bit i) most_steps
        row i b = sum_below_same (waiting i) (bit i) n (λ a c. sym (bit_inside i a b c)) ∙ sym (sum_below_cut (bit i) n most_steps few (bit_anchor_past i))

    pub wait_count_bits : wait_count n es ≡ standing_bits (wait_maps n es)
    wait_count_bits =
        wait_count_members
        ∙ sym (sum_below_cut (λ i. sum_below (bit i) most_steps) n most_steps few (λ i c. sum_below_zero (bit i) most_steps (λ a b. bit_target_past i a c)))
