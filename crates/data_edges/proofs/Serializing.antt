-- Waits held as maps: those of the definition stand for its list of waits, so that the edges and these are the sheet with its waits in.
use mathlib.Core.Path.{◌≡◌, refl, ap, ap₂, ◌∙◌}
use mathlib.Core.Bool.{Bool, ◌&&◌}
use mathlib.Core.List.{List, [], ◌∷◌, ◌++◌, map, flat_map, Memᴰ}
use Prim.Native.Nat.{ℕ, ◌≤◌, ◌<◌}
use native.Mathlib.Omega.{arith}
use lib.Dec.{ltb}
use lib.ListN.{get_or}
use borrow.Author.Tests.{lt-ltb}
use Rattle.definitions.specs.Basics.{tabulate, test_bit}
use Rattle.definitions.specs.Limits.{most_steps}
use Rattle.definitions.specs.Links.{Edge}
use Rattle.definitions.specs.Waits.{WaitPair, wait_edge, waits_for, waits_of, wait_list, wait_map, wait_maps, serialized}
use Rattle.laws.proofs.Maps.{test_bits_below}
use Rattle.laws.proofs.Tests.{mem_tabulate, select_below_same, tabulate_at}
use Rattle.data_edges.specs.Serial.{pairs_of, pairs, wait_edges}

flatMap_same : {A B : Type 0} (f g : A → List B) (s : List A) → ((a : A) → Memᴰ a s → f a ≡ g a) → flat_map f s ≡ flat_map g s
unfolding flat_map
flatMap_same f g [] h = refl
flatMap_same f g (x ∷ s) h = ap₂ (λ (l r : List _). l ++ r) (h x (Memᴰ.head refl)) (flatMap_same f g s (λ a m. h a (Memᴰ.tail m)))

wait_bit : (n : ℕ) (es : List Edge) (a i : ℕ) → n ≤ most_steps → a < n → i < n → test_bit (get_or (wait_maps n es) i 0) a ≡ waits_for n es a i
unfolding wait_maps wait_map
wait_bit n es a i h b c =
    ap (λ (m : ℕ). test_bit m a) (tabulate_at (wait_map n es) most_steps i 0 (omega arith))
    ∙ test_bits_below (λ k. ltb i n && waits_for n es k i) n a
    ∙ ap₂ (λ (s t : Bool). s && (t && waits_for n es a i)) (lt-ltb a n b) (lt-ltb i n c)

pairs_maps : (n : ℕ) (es : List Edge) → n ≤ most_steps → pairs n (wait_maps n es) ≡ wait_list n es
unfolding pairs pairs_of wait_list waits_of
pairs_maps n es h = flatMap_same (λ a. pairs_of (wait_maps n es) a n) (waits_of n es) (tabulate (λ a. a) n) at
  where
    at : (a : ℕ) → Memᴰ a (tabulate (λ a. a) n) → pairs_of (wait_maps n es) a n ≡ waits_of n es a
    at a m =
        let r = mem_tabulate (λ a. a) n m in
        let b : a < n = omega (arith, r.1, r.2) in
        ap (map (λ i. record { anchor = a; target = i })) (select_below_same (λ i. test_bit (get_or (wait_maps n es) i 0) a) (waits_for n es a) n (λ i c. wait_bit n es a i h b c))

pub serialized_maps : (n : ℕ) (least : ℕ → ℕ) (es : List Edge) → n ≤ most_steps → es ++ wait_edges n least (wait_maps n es) ≡ serialized n least es
unfolding wait_edges serialized
serialized_maps n least es h = ap (λ (w : List WaitPair). es ++ map (wait_edge least) w) (pairs_maps n es h)
